pub mod Feeding
pub mod Held
pub mod Showing

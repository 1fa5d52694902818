pub mod Owning
pub mod Keeping
pub mod Freeing
pub mod Outing
pub mod Naming

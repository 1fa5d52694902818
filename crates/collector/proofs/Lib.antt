pub mod Bounds
pub mod Sweeps
pub mod Marking
pub mod Listing
pub mod Walking

pub mod Searches
pub mod Checks
pub mod Naming

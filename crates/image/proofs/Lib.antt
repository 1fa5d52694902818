pub mod Within
pub mod Counts
pub mod Formats

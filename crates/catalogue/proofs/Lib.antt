pub mod Perform
pub mod Judged
pub mod Unique
pub mod Leaving

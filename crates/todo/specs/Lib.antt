pub mod Notes
pub mod More

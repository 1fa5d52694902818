pub mod Holding
pub mod Finding

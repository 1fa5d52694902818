pub mod Names
pub mod Answers
pub mod Editions
pub mod Operations

pub mod Order
pub mod Found
pub mod Words
pub mod Answers

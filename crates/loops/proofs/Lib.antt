pub mod Tests
pub mod Loops
pub mod Turns
pub mod Rest
pub mod Walks
pub mod Ranges

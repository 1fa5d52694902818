pub mod Ends
pub mod Numbers
pub mod Keywords
pub mod Rows
pub mod Commands

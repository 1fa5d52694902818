pub mod Runs
pub mod Numbers
pub mod Table
pub mod Commands
pub mod Orders

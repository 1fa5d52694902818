pub mod Noting
pub mod Leading

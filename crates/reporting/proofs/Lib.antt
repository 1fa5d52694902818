pub mod Headings
pub mod Texts
pub mod Reporting

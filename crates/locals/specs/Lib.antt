pub mod Slots
pub mod Outlist

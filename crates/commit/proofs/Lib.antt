pub mod Accepting
pub mod Playing

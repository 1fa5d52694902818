pub mod Tables
pub mod Queueing
pub mod Sooner
pub mod Trails
pub mod Climbing
pub mod Explaining

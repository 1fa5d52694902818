pub mod Answers
pub mod Faces
pub mod Fields
pub mod Back
pub mod Unknown
pub mod Unique

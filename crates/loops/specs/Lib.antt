pub mod Loop
pub mod Cases

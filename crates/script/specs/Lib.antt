pub mod Arithmetic
pub mod Cases
pub mod Limits
pub mod Model
pub mod Run
pub mod Shape

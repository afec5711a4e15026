pub mod Cuts
pub mod Digits
pub mod Rows
pub mod Spelt
pub mod Values

pub mod Fitting
pub mod Registers
pub mod Same
pub mod Stored
pub mod Whole

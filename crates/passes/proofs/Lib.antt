pub mod Copied
pub mod Joins
pub mod Known
pub mod Links
pub mod Options

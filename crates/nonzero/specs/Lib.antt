pub mod Joins
pub mod Marks

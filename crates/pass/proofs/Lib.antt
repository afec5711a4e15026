pub mod Joins
pub mod Pairs
pub mod Proposals
pub mod Rows

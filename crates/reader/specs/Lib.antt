pub mod Cases
pub mod Cursors
pub mod Faults
pub mod Read
pub mod Reads
pub mod Rows
pub mod Steps
pub mod Totals

pub mod Text
pub mod Writes
pub mod Wrote

pub mod Builds
pub mod Dues
pub mod Entries
pub mod Headers
pub mod Loops

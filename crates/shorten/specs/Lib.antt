pub mod Loaded
pub mod Reports
pub mod Sources

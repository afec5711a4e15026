pub mod Constants
pub mod ConstantsLaws
pub mod Copies
pub mod CopiesLaws
pub mod Shared
pub mod SharedLaws
pub mod Sources
pub mod SourcesLaws

pub mod Code
pub mod Fates
pub mod Findings
pub mod Kept
pub mod Lines
pub mod Prelude
pub mod Told

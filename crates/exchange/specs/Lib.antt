pub mod Prelude
pub mod answer
pub mod offer
pub mod section
pub mod state

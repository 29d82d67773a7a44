pub mod Common
pub mod Prelude
pub mod attribute
pub mod form
pub mod section
pub mod session

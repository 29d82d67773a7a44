pub mod Prelude
pub mod codec
pub mod format
pub mod round
pub mod row

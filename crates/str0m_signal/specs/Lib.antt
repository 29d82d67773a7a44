pub mod Prelude
pub mod back
pub mod form
pub mod line
pub mod session
pub use Rattle.str0m_sdp.specs.session.Session

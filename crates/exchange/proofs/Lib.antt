pub mod Common
-- What crates above name of the laws of rooms, which are private as their code is.
pub use Rattle.exchange.proofs.state.ExchangeFollowLaws.{follows_self, follows_then}

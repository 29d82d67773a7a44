pub mod Exchange
pub mod ExchangeError
pub mod ExchangeFollows
pub mod LineByLine
pub mod OwnSide
pub mod ReadBack
pub mod SignalingState
pub mod State

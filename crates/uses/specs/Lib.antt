pub mod Answer
pub mod LaterRound
pub mod OwnSection

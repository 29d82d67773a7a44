pub mod PlaceLaws
pub mod RestartLaws
pub mod RoundNameLaws
pub mod StoppedLaws
pub mod TrickledLaws

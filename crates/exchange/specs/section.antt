pub mod Places
pub mod Reached
pub mod RepeatedLines
pub mod Restart
pub mod RoundNames
pub mod Stopped
pub mod Trickled

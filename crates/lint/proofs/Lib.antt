pub mod AttributeLinesLaws
pub mod Common
pub mod FateLaws
pub mod FindingsLaws
pub mod LineLaws
pub mod NoteLaws
pub mod ToldLaws

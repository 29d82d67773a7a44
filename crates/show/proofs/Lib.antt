pub mod Faults
pub mod NegotiationLinesLaws
pub mod RunShows

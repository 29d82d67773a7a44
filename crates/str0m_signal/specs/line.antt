pub mod FrontReading
pub mod Heads
pub mod Lines
pub mod LinesReading
pub mod Words
pub mod WordsReading

pub mod Header
pub mod HeaderReading
pub mod Locked
pub mod Negotiation
pub mod Reader
pub mod ReaderAnswers
pub mod Section
pub mod SectionReading

pub mod DescriptionWritten
pub mod JsonWriterLaws

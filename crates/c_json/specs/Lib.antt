pub mod Description
pub mod JsonWriter

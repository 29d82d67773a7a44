pub mod CodecLookup
pub mod CodecNames
pub mod CodecSpecStatic

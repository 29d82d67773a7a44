pub mod Codec
pub mod CodecSpec

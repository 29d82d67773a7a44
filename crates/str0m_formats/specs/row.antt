pub mod CodecConfig
pub mod DefaultRows
pub mod KindRows
pub mod PayloadParams
pub mod PlainRow
pub mod PlainRowBounds
pub mod RedDistances

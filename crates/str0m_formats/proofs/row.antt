pub mod DefaultRows
pub mod PayloadParamsEqual
pub mod PayloadParamsSets
pub mod PlainRowFormats
pub mod RedDistances

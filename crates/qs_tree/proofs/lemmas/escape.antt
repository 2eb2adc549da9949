pub mod LaneLemmas
pub mod ByteClasses
pub mod Tables
pub mod EncodedFronts
pub mod DecodedFronts
pub mod Copied
pub mod Spaces
pub mod FirstPlace

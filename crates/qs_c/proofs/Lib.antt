pub mod Bytes
pub mod Composed
pub mod Found
mod Levels
pub mod LineStarts
pub mod Lines
pub mod Listing
pub mod Messages
pub mod Outcomes
pub mod Parts
pub mod Paths
pub mod Stopping
pub mod Unwritten

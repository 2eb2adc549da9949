pub mod Turns
pub mod Unsorted
pub mod Descending
pub mod Built
pub mod Chains
pub mod Levels
pub mod BuiltNodes
pub mod Distinct

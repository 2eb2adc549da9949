pub mod Levels
pub mod Lengths
pub mod Weights
pub mod Counts
pub mod Filled

-- Which part of a tree isn't read, what is expected there, and what stands there.
pub mod Expected
pub mod Unexpected
pub mod Parts
pub mod Own
pub mod Mismatch
pub mod Fails
pub mod internal

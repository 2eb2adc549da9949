-- Steps of proofs: what the private functions of reading return.
pub mod Frugal
pub mod ReadError
pub mod Hint
pub mod GivenText
pub mod Keys
pub mod Sizes
pub mod Nesting

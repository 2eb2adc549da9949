-- Steps of proofs. Nothing here adds to the meaning of a public clause.
pub mod InPlace
pub mod ReadFunction
pub mod Parsing
pub mod WrittenEntries
pub mod Keys
pub mod Parts
pub mod Fitting

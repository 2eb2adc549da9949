-- Lemmas, by the folder of `src` that they are about. The proof of a function is in `proofs/`, in a folder named after it.
pub mod Views
pub mod escape
pub mod tree
pub mod scan
pub mod build
pub mod Growing
pub mod Parsed

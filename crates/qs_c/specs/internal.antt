-- Steps of proofs: no public clause uses a word of this folder.
pub mod Parses
pub mod Trees
pub mod Unwritten

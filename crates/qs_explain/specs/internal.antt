-- Steps of proofs: no public clause uses a word of this folder.
pub mod Parsed

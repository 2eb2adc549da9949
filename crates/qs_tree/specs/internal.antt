-- Steps of proofs. No public clause uses a definition of this folder.
pub mod Settings
pub mod Parsing
pub mod escape
pub mod scan
pub mod tree
pub mod build

-- The definitions of the crate's contracts. The files named here, `escape` and `tree` have those that a public clause uses and that a
-- reader must believe. The steps of proofs are in `internal`, and `formers` lets a tree hold its own maps.
pub mod Settings
pub mod Error
pub mod Parsing
pub mod escape
pub mod tree
pub mod formers
pub mod internal

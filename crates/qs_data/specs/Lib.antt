-- What the contracts of this crate mean. A reader must believe the words of data, shape, read, failure and write, and the words of qs_spec
-- and qs_tree that they are made of. The folders `internal` hold steps of proofs, which no public clause mentions.
pub mod «data»
pub mod shape
pub mod failure
pub mod read
pub mod write

-- The words to review, in addition to those of qs_spec and of qs_data, above all of its `failure`: all modules except `internal`, which has
-- steps of proofs. `Explains` says what an explanation is.
pub mod Explains
pub mod Fields
pub mod Hint
pub mod PairRange
pub mod States
pub mod internal

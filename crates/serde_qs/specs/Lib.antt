-- The words to review, in addition to qs_spec's words and qs_data's views: all modules except `internal`. They say how a
-- type's values are written as data, which value data means, and what each call returns. `internal` has steps of proofs; a `RoundTrip` that
-- is written by hand may cite the steps in `internal.ComesBack`.
pub mod Meaning
pub mod Maps
pub mod Names
pub mod Records
pub mod ComesBack
pub mod Fitting
pub mod FieldTypes
pub mod Tuples
pub mod Variants
pub mod Compound
pub mod Tables
pub mod PartTables
pub mod Typed
pub mod Nodes
pub mod Held
pub mod Sources
pub mod Destinations
pub mod Explained
pub mod WrittenText
pub mod Wrappers
pub mod Items
pub mod Limits
pub mod Delimited
pub mod internal

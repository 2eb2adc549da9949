-- The definitions to review: all modules except `internal`. The clauses of the crates above and the laws of this
-- crate are stated in them.
-- `internal` has steps of proofs: functions that compute what a relation says, and definitions that connect one law to another. Laws
-- relate each of them to the definitions above.
pub mod Config
pub mod Escape
pub mod Token
pub mod Segment
pub mod Leaf
pub mod Grammar
pub mod History
pub mod Tree
pub mod Holds
pub mod Permutation
pub mod Order
pub mod Input
pub mod Escapes
pub mod Data
pub mod Shape
pub mod Scalar
pub mod Node
pub mod Relation
pub mod Entry
pub mod Written
pub mod Worked
pub mod Plain
pub mod Fits
pub mod Listed
pub mod Same
pub mod Stable
pub mod ReadBack
pub mod internal

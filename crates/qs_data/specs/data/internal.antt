-- Steps of proofs: how data is compared, that this obeys the laws of equality, and how many values there are to
-- drop.
pub mod Equality
pub mod EqualityLaws
pub mod Weight
pub mod Texts

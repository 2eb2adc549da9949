-- Two public standards, defined from their own texts, and the definitions that relate this notation to them.
pub mod PercentDecode
pub mod FormUrlencoded
pub mod Uri
pub mod Covered
pub mod Pieces
pub mod Named
pub mod Bracketed
pub mod Worked

-- To be believed: which data of the definitions a program's data is, and what `==` of two values is.
pub mod Views
pub mod Equality
pub mod internal

-- What is decoded and encoded. Each definition here is used in a public clause.
pub mod Classes
pub mod Copies

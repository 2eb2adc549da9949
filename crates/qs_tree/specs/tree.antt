-- From keys, values and maps to the definitions of `qs_spec`. Each definition here is used in a public clause, or by one that is.
pub mod Views
pub mod Keys
pub mod Equality
pub mod Ordered
pub mod Owned
pub mod Lookup

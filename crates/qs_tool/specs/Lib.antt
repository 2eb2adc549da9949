-- The definitions to review, in addition to those in qs_spec: all modules except `internal`, which has steps of proofs. `Line` defines the
-- line that the program prints and its exit status, `Arguments` what its arguments ask for, `Shown` how `any` shows data.
pub mod Arguments
pub mod InputError
pub mod Information
pub mod Line
pub mod Misuse
pub mod Shapes
pub mod Shown
pub mod Streams
pub mod internal

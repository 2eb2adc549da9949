-- What the contracts of this crate mean, in the words of qs_spec and the views of qs_tree and qs_data.
pub mod Nodes
pub mod Lookups
pub mod Places
pub mod Tries
pub mod Errors
pub mod Steps
pub mod Runs
pub mod Inputs
-- Writing: what the events write, and the texts that they have; then, for private clauses, where the code is and what it keeps.
pub mod Sent
pub mod Texts
pub mod Sends
pub mod Placed
pub mod Halts
pub mod Logged
pub mod Noted

pub mod Cursor
pub mod Paths
pub mod Pairs
pub mod Raw
pub mod Parser
pub mod Unallocated

pub mod Faults
pub mod Parsed
pub mod Related

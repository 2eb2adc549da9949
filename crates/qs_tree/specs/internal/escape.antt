pub mod Search
pub mod Copying

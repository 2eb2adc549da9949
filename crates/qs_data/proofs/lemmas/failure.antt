pub mod Unread
pub mod Failures
pub mod Kinds
pub mod Fields
pub mod Keys

pub mod Exchange
pub mod ByFound
pub mod Unread

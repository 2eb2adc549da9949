-- The definitions to review, in addition to those in serde_qs: all modules. They define what the example callers promise.
pub mod Query
pub mod Guard
pub mod Client
pub mod Products
pub mod Link
pub mod PerPage
pub mod Reply

-- The definitions to review, in addition to those in serde_qs: what is read from a request.
pub mod Request

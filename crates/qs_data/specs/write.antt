-- To be believed: what a serializer holds, what it writes and with which errors, when a put fails, and what was written after what.
pub mod State
pub mod Errors
pub mod Put
pub mod Scalars
pub mod Writes
pub mod Parts

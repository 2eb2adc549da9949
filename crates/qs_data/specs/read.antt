-- To be believed: what a shape reads from a node, what reading returns and with which errors, what a deserializer holds, the items, the entries and
-- the keys of a node, what is found under a name, what a variant holds, which trees hold only UTF-8, and what is read back of written data.
pub mod Reads
pub mod TreeText
pub mod Errors
pub mod Gives
pub mod Narrowed
pub mod Items
pub mod Entries
pub mod Keys
pub mod Found
pub mod Held
pub mod Parsed
pub mod ReadBack
pub mod internal

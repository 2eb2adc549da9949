-- The words to review, in addition to qs_spec's words and qs_data's views: all modules except `internal`, which has
-- steps of proofs. `Outcomes` says what each call returns, `Messages` what the text of an error says, `Paths` what is at a path,
-- `Notation` which shape a text is, `Shown` how data is written as JSON, and `Taken` how JSON is read as data.
pub mod Answer
pub mod Classes
pub mod Errors
pub mod Explained
pub mod Found
pub mod Limits
pub mod Messages
pub mod Notation
pub mod Outcomes
pub mod Paths
pub mod Settings
pub mod Shown
pub mod Status
pub mod Taken
pub mod Trees
pub mod internal

-- Lemmas, by the folder of the sources that they serve.
pub mod «data»
pub mod shape
pub mod failure
pub mod read
pub mod write

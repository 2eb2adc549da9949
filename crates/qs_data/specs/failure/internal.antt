-- Steps of proofs: what the private functions return that find out which part isn't read.
pub mod Failing

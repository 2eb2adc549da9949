-- Steps of proofs: how data is compared with a shape part by part.
pub mod Fitting

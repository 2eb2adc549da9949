pub mod Unsorted
pub mod Builder
pub mod Adding
pub mod Descent
pub mod Finishing
pub mod Distinct

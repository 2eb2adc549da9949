pub mod Puts
pub mod Wrote
pub mod Visible
pub mod Entry
pub mod Walk
pub mod Parts

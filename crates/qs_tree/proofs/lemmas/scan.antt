pub mod Values
pub mod Runs
pub mod Indexes
pub mod AfterKeys
pub mod Items
pub mod UnallocatedItems

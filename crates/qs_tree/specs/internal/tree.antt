pub mod KeyTrees
pub mod Places
pub mod Lending
pub mod NodeCount
pub mod EqualityLaws

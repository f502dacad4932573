pub mod Places
pub mod CoreSets

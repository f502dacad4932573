pub mod Places
pub mod CoreSet

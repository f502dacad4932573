pub mod Readings
pub mod Rule
pub mod Knows

mod Common
pub mod Turning
pub mod Outcomes

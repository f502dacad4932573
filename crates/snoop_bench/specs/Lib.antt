pub mod Works
pub mod Recording
pub mod Locked
pub mod Turns
pub mod Outcomes
pub mod Keeps
pub mod Faults

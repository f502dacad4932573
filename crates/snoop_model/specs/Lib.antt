pub mod Coherent
pub mod Pictures
pub mod Moves
pub mod Runs
pub mod Turns
pub mod Invariant
pub mod Texts

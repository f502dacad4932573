-- The invariant of the machine, and what follows from it.
pub mod Runs
pub mod Coherence
pub mod Safety

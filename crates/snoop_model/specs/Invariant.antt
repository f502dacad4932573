-- What every run keeps.
pub mod Block
pub mod Fits
pub mod Invariant
pub mod WellKept
pub mod MachineKeeps

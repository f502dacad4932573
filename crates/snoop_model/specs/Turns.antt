-- Cores that do one work at a time, by turns.
pub mod Turn
pub mod TurnLaws
pub mod Serving
pub mod Quiet

-- Runs.
pub mod Along
pub mod GoOn
pub mod Replies

-- What a step does, when it is refused, and which cells it needs.
pub mod Move
pub mod Refuses
pub mod Replies
pub mod LookUps
pub mod SenderTable

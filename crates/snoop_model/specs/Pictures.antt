-- What is seen of one block, and of the whole machine.
pub mod Lines
pub mod Picture
pub mod Situation
pub mod Sends
pub mod OneWriter
pub mod Proper
pub mod InQueue

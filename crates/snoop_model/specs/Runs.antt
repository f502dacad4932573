-- Steps taken in order, from reset and from any machine.
pub mod Run
pub mod Once
pub mod TakenOnce
pub mod Owed
pub mod Safe

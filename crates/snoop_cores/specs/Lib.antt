pub mod Seats
pub mod Calls
pub mod Own
pub mod Rows
pub mod Joined

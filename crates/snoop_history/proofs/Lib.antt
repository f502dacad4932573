pub mod Common
pub mod Pushed
pub mod Legal
pub mod Boards
pub mod Touching
pub mod Marks
pub mod Kept

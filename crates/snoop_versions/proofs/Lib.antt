mod Common
pub mod Versions

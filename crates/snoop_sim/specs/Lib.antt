pub mod ThreadsFault
pub mod Threaded
pub mod Status
pub mod Options
pub mod CommandLine
pub mod Asked
pub mod Performed

-- The rows of the tables, found by trying all.
pub mod Rows
pub mod Tested
pub mod OrderTests

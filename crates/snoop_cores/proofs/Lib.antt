mod Common
mod Beginnings
mod Joining
mod Performed

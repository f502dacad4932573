pub mod Common
pub mod PartsViews
pub mod ConcernedCores
pub mod Plans
pub mod Runs
pub mod LineMaps

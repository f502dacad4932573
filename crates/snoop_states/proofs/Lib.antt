pub mod Common
pub mod TableLemmas

pub mod Threading
pub mod OptionLemmas
pub mod CommandLineLemmas
pub mod AskedLemmas
pub mod Statuses

pub mod Common
pub mod FindingLemmas
pub mod LookedLemmas
pub mod LineLemmas
pub mod HintLemmas

pub mod Common
pub mod TallyLemmas
pub mod BlockLemmas
pub mod LastLemmas
pub mod LawLemmas

pub mod Common
pub mod Every
pub mod TextLemmas

pub mod LeftLemmas
pub mod RunLemmas
pub mod NumberLemmas
pub mod TargetLemmas

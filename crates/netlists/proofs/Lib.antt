pub mod FaultLemmas
mod PlannedLemmas
pub mod ReadLemmas

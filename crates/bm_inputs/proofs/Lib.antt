mod ExclusionLemmas
mod ReadLemmas
pub mod ReadingLemmas

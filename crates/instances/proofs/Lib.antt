pub mod AddingLemmas
pub mod ShapeLemmas
pub mod TreeLemmas
pub mod StandingLemmas

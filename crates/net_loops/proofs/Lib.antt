pub mod LoopLemmas
pub mod SourceLemmas

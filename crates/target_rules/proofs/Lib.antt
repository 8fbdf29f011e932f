mod LinkLemmas
mod TargetLemmas
mod UseLemmas

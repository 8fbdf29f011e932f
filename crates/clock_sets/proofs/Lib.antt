pub mod AnyLemmas
pub mod EdgeLemmas
pub mod NumberLemmas
pub mod PassLemmas
pub mod SetLemmas
pub mod WalkLemmas
pub mod WayLemmas

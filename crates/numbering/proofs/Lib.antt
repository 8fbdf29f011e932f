pub mod BitLemmas
mod KindLemmas
pub mod KnownLemmas
pub mod NumberBitLemmas
pub mod NumberEdgeLemmas
pub mod NumberKeyLemmas
pub mod NumberListLemmas
mod PlacedLemmas

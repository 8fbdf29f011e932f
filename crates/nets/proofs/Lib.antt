mod KeptLemmas
pub mod NameLemmas
mod NetLemmas
mod PlacedLemmas
pub mod ToldLemmas
mod UseLemmas

mod NextLemmas
mod RowLemmas
mod RunLemmas

pub mod AttributeLemmas
pub mod MarkLemmas
pub mod OrderLemmas
pub mod PieceLemmas
pub mod StringLemmas
pub mod UniqueLemmas

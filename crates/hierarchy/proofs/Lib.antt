pub mod DesignLemmas
pub mod GraphLemmas
pub mod ListLemmas
pub mod MarkLemmas
pub mod PlaceLemmas
pub mod RuleLemmas

pub mod BitLemmas
pub mod CountLemmas
pub mod EvaluationLemmas
pub mod RowLemmas
pub mod RunLemmas

pub mod Equations
pub mod MeaningExamples
pub mod RangeLemmas
pub mod UseLemmas

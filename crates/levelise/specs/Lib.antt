pub mod Evaluation
pub mod Machine
pub mod Rows
pub mod States

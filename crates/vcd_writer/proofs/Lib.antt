pub mod CodeSteps
pub mod Pieces

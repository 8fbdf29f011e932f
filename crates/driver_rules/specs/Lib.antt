pub mod Begun
pub mod Doubles
pub mod Driven
pub mod Groups
pub mod Runs
pub mod Selects

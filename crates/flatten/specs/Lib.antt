pub mod Gathered
pub mod Planned
pub mod Ready
pub mod Tested

pub mod Faults
pub mod Leaves

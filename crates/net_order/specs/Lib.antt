pub mod Faults
pub mod Marks
pub mod Orders
pub mod Partings
pub mod Readings
pub mod Walks

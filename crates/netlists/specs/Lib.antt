pub mod Faults
pub mod Netlists
pub mod Reading
pub mod Stops

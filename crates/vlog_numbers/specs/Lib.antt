pub mod Fill
pub mod NumberFaults
pub mod Terminals
pub mod Values

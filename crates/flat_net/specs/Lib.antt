pub mod Edges
pub mod Nets
pub mod Orders
pub mod Settling
pub mod Values

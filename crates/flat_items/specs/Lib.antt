pub mod Carried
pub mod Framing
pub mod Inner
pub mod Linked
pub mod Parts
pub mod Whole

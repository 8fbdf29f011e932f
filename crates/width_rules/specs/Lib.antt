pub mod Capped
pub mod Widths

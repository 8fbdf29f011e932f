pub mod Rows
pub mod WordText

pub mod DecimalValues
pub mod Fills

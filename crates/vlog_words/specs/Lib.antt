pub mod AmongWords
pub mod Reserved
pub mod Words

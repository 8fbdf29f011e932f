pub mod Asked
pub mod Names
pub mod Options
pub mod Words

pub mod Carried
pub mod Means
pub mod Numbers
pub mod Statements

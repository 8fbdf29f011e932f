pub mod Numbers
pub mod Passing
pub mod Sets
pub mod Steps

pub mod Declaring
pub mod Facts
pub mod Kept
pub mod Marks
pub mod Nets
pub mod Placed
pub mod Used

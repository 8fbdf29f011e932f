pub mod Clocks
pub mod Kept
pub mod Ruled
pub mod Told

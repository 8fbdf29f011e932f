pub mod Bits
pub mod Frames
pub mod Numbering
pub mod Numbers
pub mod Placed
pub mod Places

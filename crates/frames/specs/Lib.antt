pub mod Found
pub mod Framed
pub mod Numbered
pub mod Standing

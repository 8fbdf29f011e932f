pub mod Code
pub mod Header
pub mod Line
pub mod Value
pub mod Waveform
pub mod WrittenName

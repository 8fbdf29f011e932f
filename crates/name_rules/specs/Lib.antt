pub mod Declarations
pub mod Headers
pub mod Histories
pub mod Owners
pub mod Ports
pub mod Uses

-- What a design means, as a machine (IEEE 1364-2005, two-valued).
pub mod Drivers
pub mod Examples
pub mod Expressions
pub mod Instances
pub mod Keys
pub mod Lefts
pub mod Names
pub mod Ranges
pub mod Setting
pub mod Step
pub mod Uses
pub mod Value
pub mod Widths

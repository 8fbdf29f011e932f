mod Apart
mod Exprs
mod GrammarLemmas
pub mod Instances
mod Items
pub mod Law
mod Lefts
pub mod Members
mod Naming
pub mod Reaching
pub mod Registers

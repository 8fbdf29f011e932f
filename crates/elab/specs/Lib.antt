pub mod ModuleRules
pub mod Placed
pub mod Plans
pub mod Ports
pub mod Refusals
pub mod Settings

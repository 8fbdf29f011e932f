pub mod Changes
pub mod PowerUp

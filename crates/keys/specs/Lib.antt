pub mod Holding
pub mod Kinds
pub mod Printed
pub mod Under

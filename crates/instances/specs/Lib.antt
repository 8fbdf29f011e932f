pub mod Adding
pub mod Placing
pub mod Shapes
pub mod Standing

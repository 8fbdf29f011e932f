pub mod BitsLemmas
pub mod CountsLemmas
pub mod TextMap

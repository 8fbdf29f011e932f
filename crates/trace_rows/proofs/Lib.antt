pub mod CutLemmas
pub mod EventLemmas
pub mod PlaceLemmas
pub mod ViolationLemmas

pub mod Rounds
pub mod ValueLemmas

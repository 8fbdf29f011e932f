mod BitLemmas
mod ChangeLemmas
mod InstanceLemmas
mod ValueLemmas

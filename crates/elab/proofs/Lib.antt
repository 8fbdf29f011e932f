mod LabelLemmas
mod NarrowLemmas
mod PlaceLemmas
mod PortLemmas
mod RefusalLemmas

mod BitLemmas
mod KeyLemmas
mod PathLemmas
mod PlaceLemmas
mod PlannedLemmas
mod PrintLemmas
mod UnderLemmas

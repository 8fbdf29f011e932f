mod KeptLemmas
mod ListLemmas
mod TopLemmas

mod CommandLemmas
mod CutLemmas
mod ListLemmas
mod OptionLemmas

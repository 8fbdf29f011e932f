mod HeaderLemmas
mod HistoryLemmas
mod ListLemmas
mod NameLemmas
mod OwnerLemmas
mod PortLemmas

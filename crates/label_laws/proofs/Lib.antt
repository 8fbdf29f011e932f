mod DeclarationLemmas
mod GrammarLemmas
mod Law
mod NameLemmas
mod PortLemmas
mod RowLemmas
mod TokenLemmas

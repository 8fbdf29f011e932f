pub mod FormLemmas
mod ListLemmas
mod RowLemmas
mod ShapeLemmas

mod AgreementLemmas
mod CalmLemmas
mod ExclusionLemmas
mod KeepsLemmas
mod MachineLemmas
mod ToldLemmas

pub mod FaultLemmas
pub mod GatheredLemmas
pub mod NodeLemmas
pub mod PartLemmas
pub mod PlanLemmas
pub mod PowerLemmas
pub mod SettingLemmas
pub mod SourceLemmas

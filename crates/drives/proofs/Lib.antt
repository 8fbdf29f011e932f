pub mod EntryLemmas
pub mod GivenLemmas
pub mod SettingLemmas

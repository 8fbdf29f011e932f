mod AtLemmas
mod CountLemmas
mod FoundLemmas
mod FrameLemmas
mod GroundLemmas
mod SizeLemmas
mod StartLemmas
mod TopLemmas

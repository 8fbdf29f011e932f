mod Kept
mod Law
mod ResetLemmas

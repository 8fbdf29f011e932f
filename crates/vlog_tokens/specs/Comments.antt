-- Where a block comment ends.
use Rattle.std.specs.Prelude.{◌≡◌, ℕ, ◌+◌, ◌<◌, ◌≤◌, List, slice_index}

-- the bytes of `*/` stand at this place
abbrev pub IsClose : List ℕ → ℕ → Type 0
IsClose source at = (slice_index source at ≡ 42) × (slice_index source (at + 1) ≡ 47)

-- The first `*/` from this place on ends here.
pub record IsFirstClose (source : List ℕ) (from to : ℕ) : Type 0 where
  pub at : ℕ
  pub ordered : from ≤ at
  pub ends : to ≡ at + 2
  pub stands : IsClose source at
  pub first : (k : ℕ) → from ≤ k → k < at → IsClose source k → ⊥

-- Counts of faults of files that are neither read nor written.
use Rattle.std.specs.Prelude.{◌≡◌, ◌⊎◌, ℕ, List, [], ◌∷◌}
use Rattle.bm_base.specs.Counts.{FaultCounts, count_of}

-- The name is one of these.
abbrev pub IsOneOf : List (List ℕ) → List ℕ → Type 0
IsOneOf [] name = ⊥
IsOneOf (first ∷ names) name = (name ≡ first) ⊎ IsOneOf names name

-- No count of a name but these has changed.
abbrev pub OthersStay : List (List ℕ) → FaultCounts → FaultCounts → Type 0
OthersStay names old new = (name : List ℕ) → (IsOneOf names name → ⊥) → count_of new name ≡ count_of old name

-- Counts of faults, one for each name.
use Rattle.std.specs.Prelude.{◌≡◌, ◌≢◌, ◌≤◌, ℕ, ◌+◌, ◌-◌, ◌^◌, min, List, unwrap_or}
use Rattle.std.specs.Ordering.{nat_cmp}
use Rattle.std.specs.Cmp.Lexicographic.{slice_cmp}
use Rattle.std.specs.FinMap.{FinMap, code, get, insert}
use Rattle.std.specs.Coded.{Coded, coded_ℕ, coded_list}

-- the counts of the names that are in it
abbrev pub FaultCounts : Type 0
FaultCounts = FinMap (slice_cmp nat_cmp) ℕ

abbrev pub counts_code : Coded FaultCounts
counts_code = code (coded_list coded_ℕ) coded_ℕ

-- A name that is not in it has the count 0.
abbrev pub count_of : FaultCounts → List ℕ → ℕ
count_of counts name = unwrap_or (get counts name) 0

-- one more, but a count that stands at its type's end stays there
abbrev pub up : ℕ → ℕ
up count = min (count + 1) (2 ^ 64 - 1)

-- A count at its type's end is taken as risen.
abbrev pub Rose : ℕ → ℕ → Type 0
Rose before now = up before ≤ now

-- with the name in it, at the count that it had
abbrev pub entered : List ℕ → FaultCounts → FaultCounts
entered name counts = insert counts name (count_of counts name)

-- with the name's count one up
abbrev pub risen : List ℕ → FaultCounts → FaultCounts
risen name counts = insert counts name (up (count_of counts name))

-- No count falls, and only this name's may rise.
pub record RisesOnlyAt (name : List ℕ) (old new : FaultCounts) : Type 0 where
  pub grows : count_of old name ≤ count_of new name
  pub others : (q : List ℕ) → q ≢ name → count_of new q ≡ count_of old q

abbrev pub SameCounts : FaultCounts → FaultCounts → Type 0
SameCounts old new = (q : List ℕ) → count_of new q ≡ count_of old q

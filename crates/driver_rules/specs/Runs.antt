-- Bits of names, by the numbers of the names, and sets of them.
use Rattle.std.specs.Prelude.{IsSome, ℕ, ◌≡◌, ◌<◌, ◌≤◌, List, Bool, true, ◌==◌, ◌&&◌, ◌↔◌, ◌⊎◌, Option, Some, None, nat_le}
use Rattle.std.specs.BTreeMap.{BTreeMap}
use Rattle.std.specs.BTreeMap as tree
use Rattle.std.specs.List.{list_any}
use Rattle.std.specs.declared.cmp.Ordering.{Ordering}
use Rattle.std.specs.Ordering.{nat_cmp, ordering_then}
use Rattle.driver_rules.specs.declared.run.Run.{Run}

-- They have a bit in common.
abbrev pub meets : Run → Run → Bool
meets bits other = (bits.net == other.net) && (nat_le bits.first other.last && nat_le other.first bits.last)

-- ---- bits that are kept by the number of their name and the first of them, with the last

abbrev pub pair_cmp : ℕ × ℕ → ℕ × ℕ → Ordering
pair_cmp x y = ordering_then (nat_cmp x.0 y.0) (nat_cmp x.1 y.1)

-- the last of the bits that begin at this one of a name
abbrev pub kept_at : BTreeMap (ℕ × ℕ) ℕ → ℕ → ℕ → Option ℕ
kept_at runs net first = tree.get pair_cmp runs (net, first)

-- Some of the bits are among those that are kept.
pub record Touches (kept : ℕ → ℕ → Option ℕ) (bits : Run) : Type 0 where
  pub first : ℕ
  pub last : ℕ
  pub is : kept bits.net first ≡ Some last
  pub begins : first ≤ bits.last
  pub ends : bits.first ≤ last

-- Each ends where it begins or after it, and before the next of its name begins.
pub record AreApart (kept : ℕ → ℕ → Option ℕ) : Type 0 where
  pub forward : (net first last : ℕ) → kept net first ≡ Some last → first ≤ last
  pub apart : (net first last next end : ℕ) → kept net first ≡ Some last → kept net next ≡ Some end → first < next → last < next

-- Some of the bits are kept, or are among these.
abbrev pub Reaches : (ℕ → ℕ → Option ℕ) → Run → Run → Type 0
Reaches kept other bits = Touches kept bits ⊎ (meets bits other ≡ true)

-- what is kept are the bits of these
abbrev pub Keeps : (ℕ → ℕ → Option ℕ) → List Run → Type 0
Keeps kept all = (bits : Run) → bits.first ≤ bits.last → Touches kept bits ↔ (list_any (meets bits) all ≡ true)

-- what is kept at a run is the last of those of the name that begin at the bit or before it
pub record IsLast (kept : ℕ → ℕ → Option ℕ) (net bit : ℕ) (run : Run) : Type 0 where
  pub named : run.net ≡ net
  pub is : kept net run.first ≡ Some run.last
  pub begins : run.first ≤ bit
  pub latest : (first : ℕ) → first ≤ bit → IsSome (kept net first) → first ≤ run.first

abbrev pub IsLastUpTo : (ℕ → ℕ → Option ℕ) → ℕ → ℕ → Option Run → Type 0
IsLastUpTo kept net bit (Some run) = IsLast kept net bit run
IsLastUpTo kept net bit None = (first : ℕ) → first ≤ bit → kept net first ≡ None

-- one that is kept and has some of the bits, and what is known where there is none
abbrev pub IsOverlapped : (ℕ → ℕ → Option ℕ) → Run → Option Run → Type 0
IsOverlapped kept bits (Some run) = (run.net ≡ bits.net) × (kept bits.net run.first ≡ Some run.last) × (meets bits run ≡ true)
IsOverlapped kept bits None = Touches kept bits → ⊥

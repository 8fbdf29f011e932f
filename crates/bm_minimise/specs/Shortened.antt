-- Traces that are cut off after their first violation, and shorter ones.
use Rattle.std.specs.Prelude.{◌≡◌, ◌⊎◌, ℕ, ◌<◌, List, Bool, length, take}
use Rattle.trace_rows.specs.Machine.{Machine}
use Rattle.trace_rows.specs.Run.{IsFirstAtLast, Violates}
use Rattle.bm_minimise.specs.declared.fault.MinFault.{MinFault}
use Rattle.bm_minimise.specs.declared.fault.MinFault.TheVariants.{NoViolation}

-- What is left are the rows up to the first violating cycle, and that one.
pub record IsCutOff (machine : Machine) (rows made : List (List Bool)) : Type 0 where
  pub cycles : ℕ
  pub kept : made ≡ take cycles rows
  pub first_at_last : IsFirstAtLast machine made

-- What is left are these rows, or fewer.
pub record IsShortened (machine : Machine) (rows made : List (List Bool)) : Type 0 where
  pub cycles : ℕ
  pub cut_off : IsFirstAtLast machine (take cycles rows)
  pub kept : (made ≡ take cycles rows) ⊎ (length made < length (take cycles rows))

-- Where no violation is the reason, no cycle violates.
abbrev pub IsNoViolation : Machine → List (List Bool) → MinFault → Type 0
IsNoViolation machine rows fault = fault ≡ NoViolation → Violates machine rows → ⊥

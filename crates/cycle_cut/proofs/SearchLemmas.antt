-- The search for a cycle that can go.
use Rattle.std.specs.Prelude.{◌≡◌, ℕ, ◌+◌, ◌<◌, ◌≤◌, List, Bool, true, false, Some, length}
use Rattle.std.proofs.Common.{ap, arith, inl, inr, subst, sym, ◌∙◌}
use Rattle.std.proofs.lemmas.Bool.{cases_eq, true≢false}
use Rattle.levelise.specs.Machine.{Level, machine}
use Rattle.trace_rows.specs.Cut.{cut}
use Rattle.trace_rows.specs.Machine.{Machine}
use Rattle.trace_rows.specs.Rows.{Rows}
use Rattle.trace_rows.specs.Run.{Violates}
use Rattle.cycle_cut.specs.Cuts.{IsFirstCut, NoCutFrom}
use Rattle.cycle_cut.specs.Violations.{violates_from}
use Rattle.cycle_cut.proofs.TailLemmas.{violated, violates}

-- What is said of a net and a trace is said of those that they are.
pub base_agrees : (inner level : Level) (shown trace : Rows) → inner ≡ level → shown ≡ trace → (cycle : ℕ) (bit : Bool)
    → bit ≡ violates_from (machine inner) (machine inner).start (cut shown.rows cycle)
    → bit ≡ violates_from (machine level) (machine level).start (cut trace.rows cycle)
base_agrees inner level shown trace same rows_same cycle bit is =
    is
    ∙ ap (λ (one : Level). violates_from (machine one) (machine one).start (cut shown.rows cycle)) same
    ∙ ap (λ (one : Rows). violates_from (machine level) (machine level).start (cut one.rows cycle)) rows_same

module _ (machine : Machine) (rows : List (List Bool)) (from cycle : ℕ) where
  pub found_cut : from ≤ cycle → cycle < length rows → {bit : Bool}
      → bit ≡ violates_from machine machine.start (cut rows cycle) → bit ≡ true → NoCutFrom machine rows from cycle
      → IsFirstCut machine rows from (Some cycle)
  found_cut at within is one none = (at, within, violated machine (cut rows cycle) (sym is ∙ one), none)

  -- One cycle more cannot go.
  pub none_more : {bit : Bool} → bit ≡ violates_from machine machine.start (cut rows cycle) → bit ≡ false
      → NoCutFrom machine rows from cycle → NoCutFrom machine rows from (cycle + 1)
  none_more is calm none i at below v =
      elim (cases_eq i cycle) [
        | inl same ↦
            true≢false (sym (violates machine (cut rows cycle) (subst (λ n. Violates machine (cut rows n)) same v)) ∙ sym is ∙ calm)
        | inr other ↦ none i at (omega arith) v
      ]

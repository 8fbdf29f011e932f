-- What is found of a trace.
use Rattle.std.specs.Prelude.{◌≡◌, ℕ, ◌+◌, ◌-◌, ◌<◌, List, Bool, false, not, Option, Some, None, length, position, refl}
use Rattle.std.proofs.Common.{ap, arith, subst, sym, ◌∙◌}
use Rattle.std.proofs.lemmas.List.{take_all}
use Rattle.std.proofs.lemmas.List.FromFn.{length-map-range_with_len}
use Rattle.std.proofs.lemmas.Option.{none-some, same_Some, slice_get_within}
use Rattle.flat_net.specs.declared.setup.Reset.{Reset}
use Rattle.flat_net.specs.Nets.{Net}
use Rattle.levelise.specs.Machine.{Level, base_row, machine}
use Rattle.levelise.proofs.RowLemmas.{row_counted}
use Rattle.trace_rows.specs.Machine.{Machine}
use Rattle.trace_rows.specs.Run.{IsFirstAtLast, checks}
use Rattle.trace_rows.proofs.ViolationLemmas.{first_at_last, first_violates, last_is_first}
use Rattle.trace_rows.specs.Events.{event_count}
use Rattle.bm_check.specs.Verdicts.{IsVerdict}
use Rattle.bm_check.specs.declared.verdict.Verdict.{Verdict}
use Rattle.bm_check.specs.declared.verdict.Verdict.TheVariants.{Yes}
use Rattle.cycle_cut.specs.Cuts.{HasLeastCut, IsAccepted, IsFirstCut, NoCutFrom}

module _ (machine : Machine) (rows : List (List Bool)) where
  pub cycle_within : (cycle : ℕ) → position (λ bit. bit) (checks machine rows) ≡ Some cycle → cycle < length rows
  cycle_within cycle e = let v = first_violates machine rows cycle e in slice_get_within rows cycle v.0 v.1

  -- The first violating cycle is the last.
  pub at_last : (cycle : ℕ) → position (λ bit. bit) (checks machine rows) ≡ Some cycle → cycle + 1 ≡ length rows
      → IsFirstAtLast machine rows
  at_last cycle e is =
      subst (IsFirstAtLast machine) (take_all (cycle + 1) rows (omega arith)) (first_at_last machine rows cycle e)

  pub is_last : (cycle : ℕ) → position (λ bit. bit) (checks machine rows) ≡ Some cycle → IsFirstAtLast machine rows
      → cycle + 1 ≡ length rows
  is_last cycle e first =
      let same : cycle ≡ length rows - 1 = same_Some cycle (length rows - 1) (sym e ∙ last_is_first machine rows first) in
      let last = first.is_last in omega arith

  pub not_at_last : position (λ bit. bit) (checks machine rows) ≡ None → IsFirstAtLast machine rows → ⊥
  not_at_last none first = none-some (length rows - 1) (sym none ∙ last_is_first machine rows first)

  pub accepted : IsFirstAtLast machine rows → NoCutFrom machine rows 0 (length rows) → IsAccepted machine rows
  accepted first none = record { first_at_last = first; no_cut = λ i within. none i (omega arith) within }

  pub accepted_as : (verdict : Verdict) → IsFirstAtLast machine rows → NoCutFrom machine rows 0 (length rows)
      → verdict ≡ Yes (length rows) (event_count machine.base rows) → IsVerdict machine rows verdict
  accepted_as verdict first none is =
      subst (IsVerdict machine rows) (sym is) (accepted first none, refl, refl)

  pub least : (cycle : ℕ) → IsFirstAtLast machine rows → IsFirstCut machine rows 0 (Some cycle)
      → HasLeastCut machine rows cycle
  least cycle first (from, within, violates, none) = record {
    first_at_last = first;
    within = within;
    violates = violates;
    least = λ j below. none j (omega arith) below;
  }

-- The row that events are counted from has a bit for each input.
base_long : (net : Net) (reset : Option Reset) → length (base_row net reset) ≡ net.inputs
base_long net (Some reset) = row_counted net reset.bit (not reset.active) (base_row net (Some reset)) refl
base_long net None = length-map-range_with_len (λ (place : ℕ). false) 0 net.inputs

pub base_counted : (level : Level) (row : List Bool) → row ≡ (machine level).base → length row ≡ level.net.inputs
base_counted level row is = ap length is ∙ base_long level.net level.setup.reset

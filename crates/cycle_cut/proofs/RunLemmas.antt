-- The states of a run.
use Rattle.std.specs.Prelude.{◌≡◌, ℕ, ◌+◌, ◌<◌, List, [], Bool, Some, length, slice_get, slice_index_or}
use Rattle.std.proofs.Common.{ap, arith, sym, ◌∙◌}
use Rattle.std.proofs.lemmas.List.FromFn.{get_or-map-range_with_len, length-map-range_with_len}
use Rattle.std.proofs.lemmas.Option.{get_or_from_slice_get, slice_get_within}
use Rattle.levelise.specs.Machine.{Level, machine}
use Rattle.trace_rows.specs.Rows.{Rows}
use Rattle.trace_rows.specs.Run.{checks, state_at}
use Rattle.cycle_cut.specs.Runs.{IsRun}
use Rattle.cycle_cut.proofs.TailLemmas.{bit_at}

module _ (level : Level) (trace : Rows) (states : List (List Bool)) (run : IsRun level trace states) where
  -- There is one state more than rows.
  pub states_long : length states ≡ length trace.rows + 1
  states_long =
      ap length run.states_are ∙ length-map-range_with_len (state_at (machine level) trace.rows) 0 (length trace.rows + 1)

  pub state_is : (cycle : ℕ) (state : List Bool) → slice_get states cycle ≡ Some state
      → state ≡ state_at (machine level) trace.rows cycle
  state_is cycle state at =
      let inside : cycle < length trace.rows + 1 = omega (arith, slice_get_within states cycle state at, states_long) in
      sym (get_or_from_slice_get states cycle state [] at)
      ∙ ap (λ list. slice_index_or list cycle []) run.states_are
      ∙ get_or-map-range_with_len (state_at (machine level) trace.rows) 0 (length trace.rows + 1) cycle cycle [] inside
      (omega arith)

  pub state_counted : (cycle : ℕ) (state : List Bool) → slice_get states cycle ≡ Some state
      → length state ≡ length level.net.power_up
  state_counted cycle state at = ap length (state_is cycle state at) ∙ run.counted trace.rows cycle

  -- what the checker says of a cycle
  pub bit_is : (cycle : ℕ) (state row : List Bool) (bit : Bool) → slice_get states cycle ≡ Some state
      → slice_get trace.rows cycle ≡ Some row → bit ≡ (machine level).bad state row
      → slice_get (checks (machine level) trace.rows) cycle ≡ Some bit
  bit_is cycle state row bit at row_at is =
      bit_at (machine level) trace.rows cycle row row_at
      ∙ ap Some (ap (λ one. (machine level).bad one row) (sym (state_is cycle state at)) ∙ sym is)

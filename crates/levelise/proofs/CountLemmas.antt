-- How many bits states have.
use Rattle.std.specs.Prelude.{◌≡◌, ℕ, List, [], ◌∷◌, Bool, fold, length, refl, take}
use Rattle.flat_net.specs.Nets.{IsNet, Net}
use Rattle.flat_net.specs.Values.{edge_value_of}
use Rattle.trace_rows.specs.Run.{state_after}
use Rattle.levelise.specs.Machine.{Level, known, machine, next, reset_rows}
use Rattle.levelise.specs.States.{AreStatesCounted}
use Rattle.levelise.proofs.EvaluationLemmas.{next_counted}

module _ (level : Level) (is : IsNet level.net) where
  step_counted : (state row : List Bool) → length (next level.net state row) ≡ length level.net.power_up
  step_counted state row =
      next_counted level.net is (λ edge. known (edge_value_of level.net state row edge)) (next level.net state row) refl

  folded_counted : (state : List Bool) (rows : List (List Bool)) → length state ≡ length level.net.power_up
      → length (fold (next level.net) state rows) ≡ length level.net.power_up
  folded_counted state [] count = count
  folded_counted state (row ∷ rows) count =
      folded_counted (next level.net state row) rows (step_counted state row)

  after_counted : (state : List Bool) (rows : List (List Bool)) → length state ≡ length level.net.power_up
      → length (state_after (machine level) state rows) ≡ length level.net.power_up
  after_counted state [] count = count
  after_counted state (row ∷ rows) count = after_counted (next level.net state row) rows (step_counted state row)

  pub states_counted : AreStatesCounted level
  states_counted rows cycle =
      after_counted (machine level).start (take cycle rows)
      (folded_counted level.net.power_up (reset_rows level.net level.setup.cycles level.setup.reset) refl)

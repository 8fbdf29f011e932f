use Rattle.std.proofs.Common.{[], ap, sym, cond, fold, flat_map, ◌∙◌}
use Rattle.hierarchy.specs.Failures.{earlier}
use Rattle.hierarchy.specs.Graph.{bad_item}
use Rattle.hierarchy.specs.Places.{place_in}
use Rattle.hierarchy.proofs.DesignLemmas.{bad_turn}
use Rattle.hierarchy.proofs.instances.first_bad.Goals as goal
use Rattle.hierarchy.proofs.instances.first_bad.Goals.{then-is_reached+in_ok-note_module, else-is_reached}

pub loop-place-preserved : goal.loop-place-preserved
loop-place-preserved c =
    let turn =
    bad_turn c.args.reach.now (place_in c.args.places.now) c.args.modules.now c.loop-place.place c.index-modules-place.result
    c.loop-place.found c.if-is_reached.found c.loop-place-test.true c.index-modules-place.is in
    let bad = flat_map (bad_item c.args.reach.now (place_in c.args.places.now) c.loop-place.place c.index-modules-place.result) c.index-modules-place.result.items in
    elim c.if-is_reached.branch [
      | then-is_reached+in_ok-note_module w ↦
          turn (w.found-is ∙ w.in_ok-note_module.ensures
          ∙ ap (λ b. fold earlier c.loop-place.found (cond b bad [])) (sym w.if-is_reached.true ∙ c.is_reached.ensures)) ∙ c.loop-place.invariant
      | else-is_reached w ↦
          turn (w.found-is
          ∙ ap (λ b. fold earlier c.loop-place.found (cond b bad [])) (sym w.if-is_reached.false ∙ c.is_reached.ensures)) ∙ c.loop-place.invariant
    ]

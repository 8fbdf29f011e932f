use Rattle.std.proofs.Common.{◌-◌, ◌++◌, ◌∙◌, sym, ap, arith, rules, map, vec_items}
use Rattle.std.proofs.lemmas.List.{append-nil}
use Rattle.hierarchy.proofs.GraphLemmas.{ahead_is}
use Rattle.hierarchy.proofs.MarkLemmas.{has-at}
use Rattle.instances.specs.Adding.{placed_from}
use Rattle.instances.proofs.AddingLemmas.{added_all, inner_within, passed_on, placed_none, refused_first, refused_inner, refused_turn}
use Rattle.instances.proofs.adding.+adding.Goals as goal

pub add_instance-returns-then-depth-eq0-clause-added :
    goal.add_instance-returns-then-depth-eq0-clause-added
add_instance-returns-then-depth-eq0-clause-added t c =
    sym (ap (λ xs. c.args.list.now ++ xs) (placed_none (map vec_items c.args.graph.now) c.args.depth c.args.place (search rules))
    ∙ append-nil c.args.list.now)

pub add_instance-returns-in_err-push_within-clause-refused :
    goal.add_instance-returns-in_err-push_within-clause-refused
add_instance-returns-in_err-push_within-clause-refused t c =
    passed_on _ c.from_residual.result c.in_err-push_within.field-0.0 c.from_residual.ensures.1
    (refused_first (map vec_items c.args.graph.now) c.args.depth (c.args.depth - 1) c.args.place c.args.list.now
    c.in_err-push_within.field-0.0
    (omega arith) c.in_err-push_within.ensures.refused)

pub add_instance-add_instances-requires : goal.add_instance-add_instances-requires
add_instance-add_instances-requires t c =
    let is = c.deref.ensures.value
    ∙ sym (ahead_is vec_items c.args.graph.now c.args.place c.index-graph-place.result c.requires.within c.index-graph-place.is) in (
      search rules,
      (
        c.requires.closed,
        (inner_within vec_items c.args.graph.now c.args.place c.deref.result.now is c.requires.closed, c.in_ok-push_within.ensures.limited),
      ),
    )

pub add_instance-returns-in_err-add_instances-clause-refused :
    goal.add_instance-returns-in_err-add_instances-clause-refused
add_instance-returns-in_err-add_instances-clause-refused t c =
    let is = c.deref.ensures.value
    ∙ sym (ahead_is vec_items c.args.graph.now c.args.place c.index-graph-place.result c.requires.within c.index-graph-place.is) in
    passed_on _ c.from_residual-in_err-add_instances.result c.in_err-add_instances.field-0.0 c.from_residual-in_err-add_instances.ensures.1
    (refused_inner (map vec_items c.args.graph.now) c.args.depth (c.args.depth - 1) c.args.place c.args.list.now c.push_within.new.list
    c.deref.result.now c.in_err-add_instances.field-0.0 (omega arith) is c.in_ok-push_within.ensures.added
    c.in_err-add_instances.ensures.refused)

pub add_instance-returns-clause-added : goal.add_instance-returns-clause-added
add_instance-returns-clause-added t c =
    let is = c.deref.ensures.value
    ∙ sym (ahead_is vec_items c.args.graph.now c.args.place c.index-graph-place.result c.requires.within c.index-graph-place.is) in
    c.set.ensures
    ∙ added_all (map vec_items c.args.graph.now) c.args.depth (c.args.depth - 1) c.args.place c.args.list.now c.push_within.new.list
    c.add_instances.new.list c.deref.result.now c.len-at.result (c.len.result - c.len-at.result) (omega arith) is
    c.in_ok-push_within.ensures.added
    c.in_ok-add_instances.ensures.added c.len-at.ensures (ap (λ n. n - c.len-at.result) c.len.ensures)

pub add_instances-add_instance-requires : goal.add_instances-add_instance-requires
add_instances-add_instance-requires t c = (
  search rules,
  (
    c.requires.closed,
    (c.requires.within _ (has-at c.args.places.now c.loop-place.place-index c.loop-place-test.true), c.loop-place.invariant.limited),
  ),
)

pub add_instances-returns-in_err-add_instance-clause-refused :
    goal.add_instances-returns-in_err-add_instance-clause-refused
add_instances-returns-in_err-add_instance-clause-refused t c =
    passed_on _ c.from_residual.result c.in_err-add_instance.field-0.0 c.from_residual.ensures.1
    (refused_turn (placed_from (map vec_items c.args.graph.now) c.args.depth) c.args.places.now c.loop-place.place-index c.args.list.now
    c.loop-place.list
    c.in_err-add_instance.field-0.0 c.loop-place-test.true c.loop-place.invariant.added c.in_err-add_instance.ensures.refused)

use Rattle.std.proofs.Common.{◌≡◌, arith, length, map, sym, subst, vec_items, ◌∙◌}
use Rattle.std.proofs.lemmas.List.{length-map}
use Rattle.clock_sets.specs.Steps.{IsGraph}
use Rattle.clock_sets.proofs.EdgeLemmas.{graph_closed, walks_spread}
use Rattle.clock_sets.proofs.marks.spread.Goals as goal

pub reached_from-requires-clause-closed : goal.reached_from-requires-clause-closed
reached_from-requires-clause-closed c =
    let graph : IsGraph c.args.count c.args.steps.now c.args.starts.now (map vec_items c.deref.result.now) =
    subst (λ g. IsGraph c.args.count c.args.steps.now c.args.starts.now (map vec_items g)) (sym c.deref.ensures.value) c.in_ok-graph.ensures in
    graph_closed c.args.count c.args.steps.now c.args.starts.now (map vec_items c.deref.result.now) graph c.requires.steps c.requires.starts

pub returns-clause-marks : goal.returns-clause-marks
returns-clause-marks c = λ n h.
    let graph : IsGraph c.args.count c.args.steps.now c.args.starts.now (map vec_items c.deref.result.now) =
    subst (λ g. IsGraph c.args.count c.args.steps.now c.args.starts.now (map vec_items g)) (sym c.deref.ensures.value) c.in_ok-graph.ensures in
    let len : length (map vec_items c.deref.result.now) ≡ length c.deref.result.now = length-map c.deref.result.now vec_items in
    c.in_ok-reached_from.ensures.marks n (omega (arith, graph.len))
    ∙ walks_spread c.args.count c.args.steps.now c.args.starts.now (map vec_items c.deref.result.now) graph c.requires.steps c.requires.starts n h

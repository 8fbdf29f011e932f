use Rattle.std.proofs.Common.{◌≡◌, [], ap, flat_map, ◌∙◌}
use Rattle.hierarchy.specs.Indexed.{Topped}
use Rattle.hierarchy.specs.Reach.{reaches}
use Rattle.clock_sets.specs.Numbers.{number_of}
use Rattle.clock_sets.specs.Sets.{edge_in, edges}
use Rattle.clock_sets.specs.Steps.{with_signal}
use Rattle.clock_sets.proofs.WalkLemmas.{gathered, reached_end, reached_turn}
use Rattle.clock_sets.proofs.edges.edges_of.Goals as goal

pub loop-place-preserved : goal.loop-place-preserved
loop-place-preserved c = record {
  same =
      let same : c.modules-nets-items.result.now ≡ c.args.numbers.now.design.modules = c.modules-nets-items.ensures ∙ ap (λ (t : Topped). t.design.modules) c.design.ensures in
      reached_turn (with_signal (number_of c.args.numbers.now.design.modules)) (λ m. flat_map (edge_in m) m.items)
      c.args.numbers.now.design c.args.numbers.now.top c.loop-place.place c.modules-nets-items.result.now c.nets-item.result
      c.loop-place.found c.add_if_reached.new.found same c.loop-place-test.true c.nets-item.is c.in_ok-add_if_reached.ensures
      ∙ c.loop-place.invariant.same;
}

pub returns : goal.returns
returns c =
    let same : c.modules-nets-items.result.now ≡ c.args.numbers.now.design.modules = c.modules-nets-items.ensures ∙ ap (λ (t : Topped). t.design.modules) c.design.ensures in
    reached_end (with_signal (number_of c.args.numbers.now.design.modules)) (λ m. flat_map (edge_in m) m.items)
    (λ m. reaches c.args.numbers.now.design c.args.numbers.now.top m.name) c.loop-place.place c.modules-nets-items.result.now c.args.numbers.now.design.modules c.loop-place.found
    same c.loop-place-test.false
    ∙ c.loop-place.invariant.same
    ∙ gathered (number_of c.args.numbers.now.design.modules) [] (edges c.args.numbers.now.design c.args.numbers.now.top)

use Rattle.std.proofs.Common.{ap, reverse, subst, ◌∙◌}
use Rattle.lowering.specs.Expressions.{assigned}
use Rattle.lowering.specs.Limits.{Excuses, next_of, with_more}
use Rattle.lowering.specs.Lowered.{after}
use Rattle.processes.specs.Carried.{CarriesTo}
use Rattle.processes.specs.Numbers.{written}
use Rattle.processes.specs.Statements.{process, set}
use Rattle.processes.proofs.CarryLemmas.{passed_on, set_carried, set_carries}
use Rattle.vlog_tree.specs.Meaning.Lefts.{left_bits}
use Rattle.processes.proofs.sets.set.Goals as goal

pub returns-in_err-edges-clause-fault : goal.returns-in_err-edges-clause-fault
returns-in_err-edges-clause-fault g c =
    let m = g.S.Scope.module_of c.args.scope.now in
    let wires = g.S.Scope.wires c.args.scope.now in
    let left = c.args.left.now in
    let right = c.args.right.now in
    let start = c.args.nodes.now in
    let fault = c.in_err-edges.field-0.0 in
    let next = next_of start in
    passed_on (CarriesTo m (process (left_bits m left) (set m wires left right)) start c.args.current.now) c.from_residual-in_err-edges.result fault
    c.from_residual-in_err-edges.ensures.1
    (set_carries m c.args.places.now.definition wires left right c.requires c.in_ok-numbers.numbers c.in_ok-numbers.ensures start c.args.current.now fault
    (subst (λ count. Excuses (after next (assigned m wires count right next)) fault) c.len.ensures c.in_err-edges.ensures.fault))

pub returns-clause-carried : goal.returns-clause-carried
returns-clause-carried g c =
    let m = g.S.Scope.module_of c.args.scope.now in
    let wires = g.S.Scope.wires c.args.scope.now in
    let left = c.args.left.now in
    let right = c.args.right.now in
    let start = c.args.nodes.now in
    let next = next_of start in
    set_carried m c.args.places.now.definition wires left right c.requires c.in_ok-numbers.numbers c.in_ok-numbers.ensures start c.args.current.now
    c.lower_assigned.new.nodes c.in_ok-edges.edges c.write_down.new.current
    (c.in_ok-edges.ensures.nodes ∙ ap (λ count. with_more start (assigned m wires count right next)) c.len.ensures)
    (c.in_ok-edges.ensures.edges ∙ ap (λ count. (assigned m wires count right next).edges) c.len.ensures)
    (c.write_down.ensures ∙ (λ j. written (reverse (c.as_slice.ensures j)) (c.as_slice-2.ensures j) c.args.current.now))

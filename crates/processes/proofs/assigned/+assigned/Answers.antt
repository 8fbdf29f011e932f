use Rattle.std.proofs.Common.{None, Some, arith}
use Rattle.lowering.specs.Expressions.{Wires}
use Rattle.processes.specs.Numbers.{Adds}
use Rattle.processes.specs.Statements.{process_of}
use Rattle.processes.proofs.AddLemmas.{adds_block, adds_end, adds_if, adds_more, adds_set, adds_shown, on_ok}
use Rattle.processes.proofs.OrderLemmas.{adds_none}
use Rattle.processes.proofs.assigned.+assigned.Goals as goal

pub add_assigned-returns-in-Block : goal.add_assigned-returns-in-Block
add_assigned-returns-in-Block t c =
    on_ok _ _ c.add_block.result c.add_block.ensures
    (λ adds wires. adds_block c.args.places.now.definition c.args.numbers.now c.add_block.new.numbers wires c.args.stmt.now c.in-Block.body
    c.as_slice.result.now c.in-Block.is c.as_slice.ensures (adds wires))

pub add_assigned-returns-in-Some : goal.add_assigned-returns-in-Some
add_assigned-returns-in-Some t c =
    let m = c.args.places.now.definition in
    let one : (wires : Wires) → Adds m (process_of m wires c.in-If.first).assigns c.args.numbers.now c.add_assigned.new.numbers =
    λ wires. adds_shown m c.args.numbers.now c.add_assigned.new.numbers wires c.get.result.now c.in-If.first c.get.ensures (c.in_ok-add_assigned-in-If.ensures wires) in
    on_ok _ _ c.add_assigned-in-Some.result c.add_assigned-in-Some.ensures
    (λ adds wires. adds_if c.args.places.now.definition c.args.numbers.now c.add_assigned-in-Some.new.numbers wires c.args.stmt.now c.in-If.cond
    c.in-If.first c.in-If.other (Some c.in-Some.other) c.in-If.is c.in-Some.is c.add_assigned.new.numbers (one wires)
    (adds_shown m c.add_assigned.new.numbers c.add_assigned-in-Some.new.numbers wires c.get-in-Some.result.now c.in-Some.other c.get-in-Some.ensures (adds wires)))

pub add_assigned-returns-in-None : goal.add_assigned-returns-in-None
add_assigned-returns-in-None t c wires =
    adds_if c.args.places.now.definition c.args.numbers.now c.add_assigned.new.numbers wires c.args.stmt.now c.in-If.cond
    c.in-If.first c.in-If.other None c.in-If.is c.in-None.is c.add_assigned.new.numbers
    (adds_shown c.args.places.now.definition c.args.numbers.now c.add_assigned.new.numbers wires c.get.result.now c.in-If.first c.get.ensures
    (c.in_ok-add_assigned-in-If.ensures wires))
    (adds_none c.args.places.now.definition c.add_assigned.new.numbers)

pub add_assigned-returns-in-Set : goal.add_assigned-returns-in-Set
add_assigned-returns-in-Set t c =
    on_ok _ _ c.add_left.result c.add_left.ensures
    (λ added wires. adds_set c.args.places.now.definition c.args.numbers.now c.add_left.new.numbers wires c.args.stmt.now c.in-Set.at c.in-Set.left
    c.in-Set.right c.in-Set.is added)

pub add_block-loop-stmt-preserved : goal.add_block-loop-stmt-preserved
add_block-loop-stmt-preserved t c wires =
    adds_more c.args.places.now.definition wires c.args.body.now c.loop-stmt.stmt-index c.args.numbers.now c.loop-stmt.numbers c.stmt-item.result
    c.add_assigned.new.numbers c.loop-stmt-test.true c.stmt-item.is (c.in_ok-add_assigned.ensures wires) (c.loop-stmt.invariant wires)

pub add_block-returns : goal.add_block-returns
add_block-returns t c wires =
    adds_end c.args.places.now.definition wires c.args.body.now c.loop-stmt.stmt-index c.args.numbers.now c.loop-stmt.numbers (omega arith) (c.loop-stmt.invariant wires)

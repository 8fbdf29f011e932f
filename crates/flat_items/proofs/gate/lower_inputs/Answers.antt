use Rattle.std.proofs.Common.{◌≡◌, ◌+◌, ap, arith, drop, ◌∙◌}
use Rattle.flat_items.specs.Parts.{inputs_of}
use Rattle.flat_items.proofs.CarryLemmas.{found_at}
use Rattle.flat_items.proofs.GateLemmas.{inputs_more, one_input}
use Rattle.frames.specs.Framed.{wires_of}
use Rattle.lowering.specs.Limits.{next_of}
use Rattle.lowering.specs.Loops.{continued}
use Rattle.lowering.specs.Lowered.{after}
use Rattle.lowering.proofs.BoundLemmas.{excused}
use Rattle.lowering.proofs.ListLemmas.{next_found}
use Rattle.lowering.proofs.RemainsLemmas.{within}
use Rattle.flat_items.proofs.gate.lower_inputs.Goals as goal

pub returns-in_err-bits-clause-fault : goal.returns-in_err-bits-clause-fault
returns-in_err-bits-clause-fault c =
    let m = c.args.frame.now.placing.definition in
    let wires = wires_of c.args.frame.now in
    let ins = c.args.ins.now in
    let place = c.loop-input.input-index in
    let input = c.input-item.result in
    let next = next_of c.loop-input.nodes in
    let one = one_input m wires input next in
    let rest = inputs_of m wires (drop (place + 1) ins) (after next one) in
    let is : inputs_of m wires (drop place ins) next ≡ continued one rest =
    ap (λ left. inputs_of m wires left next) (next_found ins place input (found_at ins place input (omega arith) c.input-item.is))
    ∙ inputs_more m wires input (drop (place + 1) ins) next in
    let le = within c.loop-input.edges c.loop-input.nodes c.args.nodes.now (inputs_of m wires (drop place ins)) (inputs_of m wires ins) one rest is
    c.loop-input.invariant in
    excused (after next one) _ c.from_residual.result _ c.from_residual.ensures.1 c.in_err-bits.ensures.fault le

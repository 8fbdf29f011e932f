use Rattle.std.proofs.Common.{◌≡◌, [], ◌∷◌, ◌++◌, ap, arith, sym, ◌∙◌}
use Rattle.flat_items.proofs.EdgeLemmas.{one_bit}
use Rattle.frames.specs.Framed.{wires_of}
use Rattle.vlog_tree.specs.Meaning.Keys.{bit_count}
use Rattle.flat_items.proofs.ports.edges_of.Goals as goal

pub loop-bit-preserved : goal.loop-bit-preserved
loop-bit-preserved c =
    let wires = wires_of c.args.frame.now c.args.name.now in
    let bit = c.loop-bit.bit in
    let counted : bit_count c.nets.result.now c.args.name.now ≡ bit_count c.args.frame.now.placing.definition c.args.name.now =
    ap (λ m. bit_count m c.args.name.now) c.nets.ensures ∙ ap (λ it. bit_count it.definition c.args.name.now) c.places.ensures in
    let edge : wires bit ≡ c.edge.result = c.wire_of-wire.ensures.edges bit (omega arith) ∙ sym c.edge.ensures in
    c.in_ok-push.ensures.ok ∙ (λ j. c.loop-bit.invariant j ++ sym edge j ∷ []) ∙ sym (one_bit wires bit)

use Rattle.std.proofs.Common.{◌≡◌, ◌+◌, ◌-◌, ◌∷◌, ap, arith, map, sym, ◌∙◌, append_assoc}
use Rattle.std.specs.List.{range_with_len}
use Rattle.lowering.proofs.WireLemmas.{range_less}
use Rattle.lowering.proofs.selects.wired.Goals as goal

pub loop-bit-preserved : goal.loop-bit-preserved
loop-bit-preserved g c =
    let wires = g.S.Scope.wires c.args.scope.now c.args.name.now in
    let bit = c.loop-bit.bit in
    let n = c.args.low + c.args.width - bit in
    let less : n - 1 ≡ c.args.low + c.args.width - (bit + 1) = omega arith in
    let next : map wires (range_with_len bit n) ≡ wires bit ∷ map wires (range_with_len (bit + 1) (c.args.low + c.args.width - (bit + 1))) =
    ap (map wires) (range_less bit n (omega arith) ∙ ap (λ k. bit ∷ range_with_len (bit + 1) k) less) in
    let edge : wires bit ≡ c.edge.result = c.wire-wire.ensures.edges bit (omega arith) ∙ sym c.edge.ensures in
    grind (arith, append_assoc)

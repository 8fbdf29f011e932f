use Rattle.std.proofs.Common.{ℕ, ◌+◌, ◌∷◌, [], List, arith, drop, get_or, map}
use Rattle.std.proofs.lemmas.List.{at_drop_more}
use Rattle.flat_net.specs.declared.edge.Edge.{Edge}
use Rattle.flat_net.specs.Edges.{plain}
use Rattle.lowering.specs.Gates.{folded_from}
use Rattle.lowering.specs.Limits.{next_of}
use Rattle.lowering.specs.Lowered.{Lowered, lowered}
use Rattle.lowering.specs.Operators.{gate_of, turned}
use Rattle.lowering.proofs.BoundLemmas.{excused}
use Rattle.lowering.proofs.RemainsLemmas.{within}
use Rattle.lowering.proofs.gates.fold_from.Goals as goal

pub returns-in_err-so_far-clause-fault : goal.returns-in_err-so_far-clause-fault
returns-in_err-so_far-clause-fault c =
    let now = c.loop-bit.nodes in
    let bits = c.args.bits.now in
    let i = c.loop-bit.bit-index in
    let fold : List Edge → ℕ → Lowered =
    λ bits next. folded_from (gate_of c.args.gate) c.loop-bit.so_far (map (turned c.args.turn) bits) next in
    let bit = get_or bits i c.args.first in
    let node = gate_of c.args.gate c.loop-bit.so_far (turned c.args.turn bit) in
    let rest = folded_from (gate_of c.args.gate) (plain (next_of now)) (map (turned c.args.turn) (drop (i + 1) bits)) (next_of now + 1) in
    let parts = at_drop_more (λ bits. fold bits (next_of now)) bits i c.args.first (omega arith) in
    let le = within [] now c.args.nodes.now (fold (drop i bits)) _ (lowered (node ∷ []) []) rest parts c.loop-bit.invariant in
    excused (next_of now + 1) _ c.from_residual.result _ c.from_residual.ensures.1 c.in_err-so_far.ensures.fault le

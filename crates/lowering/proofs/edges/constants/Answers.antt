use Rattle.std.proofs.Common.{◌≡◌, ◌+◌, ◌∷◌, ap, arith, drop, map, append_assoc}
use Rattle.flat_net.specs.Edges.{constant}
use Rattle.lowering.proofs.ListLemmas.{next_found}
use Rattle.lowering.proofs.edges.constants.Goals as goal

pub loop-i-preserved : goal.loop-i-preserved
loop-i-preserved c =
    let bits = c.args.bits.now in
    let i = c.loop-i.i in
    let next : map constant (drop i bits) ≡ constant c.get.result ∷ map constant (drop (i + 1) bits) =
    ap (map constant) (next_found bits i c.get.result c.get.ensures) in
    grind (arith, append_assoc)

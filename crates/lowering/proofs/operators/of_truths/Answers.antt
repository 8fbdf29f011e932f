use Rattle.std.proofs.Common.{◌∷◌, [], sym, ◌∙◌}
use Rattle.lowering.specs.Gates.{any_bit}
use Rattle.lowering.specs.Limits.{next_of}
use Rattle.lowering.specs.Lowered.{and_then}
use Rattle.lowering.specs.Operators.{all_paired, paired}
use Rattle.lowering.proofs.ChainLemmas.{then_nodes}
use Rattle.lowering.proofs.RemainsLemmas.{more_ended}
use Rattle.lowering.proofs.operators.of_truths.Goals as goal

pub returns-clause-nodes : goal.returns-clause-nodes
returns-clause-nodes c =
    let left = any_bit c.args.left.now in
    let right = any_bit c.args.right.now in
    let pairing = c.args.pairing in
    let one = c.in_ok-left.left ∷ [] in
    let other = c.in_ok-right.right ∷ [] in
    let mid = c.any_bit.new.nodes in
    let last = c.any_bit-2.new.nodes in
    then_nodes left (λ left. and_then right (all_paired pairing left)) one c.args.nodes.now mid
    c.in_ok-left.ensures.nodes c.in_ok-left.ensures.edges _
    (then_nodes right (all_paired pairing one) other mid last c.in_ok-right.ensures.nodes c.in_ok-right.ensures.edges _
    (c.in_ok-pair.ensures.nodes ∙ sym (more_ended last (paired pairing c.in_ok-left.left c.in_ok-right.right (next_of last)))))

use Rattle.std.proofs.Common.{◌+◌, ◌∷◌, [], arith, drop, get_or, sym, ◌∙◌}
use Rattle.std.proofs.lemmas.List.{append-nil, at_drop_more}
use Rattle.flat_net.specs.Edges.{zero_edge}
use Rattle.lowering.specs.Limits.{next_of}
use Rattle.lowering.specs.Lowered.{after}
use Rattle.lowering.specs.Operators.{all_paired, paired}
use Rattle.lowering.proofs.BoundLemmas.{excused}
use Rattle.lowering.proofs.ListLemmas.{none_paired}
use Rattle.lowering.proofs.RemainsLemmas.{end_edges, end_nodes, within}
use Rattle.lowering.proofs.pairs.pair_all.Goals as goal

pub returns-in_err-edge-clause-fault : goal.returns-in_err-edge-clause-fault
returns-in_err-edge-clause-fault c =
    let now = c.loop-i.nodes in
    let next = next_of c.loop-i.nodes in
    let left = c.args.left.now in
    let right = c.args.right.now in
    let i = c.loop-i.i in
    let pairing = c.args.pairing in
    let first = paired pairing (get_or left i zero_edge) (get_or right i zero_edge) next in
    let rest = all_paired pairing (drop (i + 1) left) (drop (i + 1) right) (after next first) in
    let parts =
    at_drop_more (λ edges. all_paired pairing edges (drop i right) next) left i zero_edge (omega arith)
    ∙ at_drop_more (λ edges. all_paired pairing (get_or left i zero_edge ∷ drop (i + 1) left) edges next) right i zero_edge (omega arith) in
    let le = within c.loop-i.edges now c.args.nodes.now (all_paired pairing (drop i left) (drop i right)) _ first rest parts
    c.loop-i.invariant in
    excused (after next first) _ c.from_residual.result _ c.from_residual.ensures.1 c.in_err-edge.ensures.fault le

pub returns-clause-nodes : goal.returns-clause-nodes
returns-clause-nodes c =
    let next = next_of c.loop-i.nodes in
    let nothing = none_paired c.args.pairing c.args.left.now c.args.right.now c.loop-i.i next (omega arith) in
    end_nodes c.loop-i.edges c.loop-i.nodes c.args.nodes.now _ _ [] nothing c.loop-i.invariant

pub returns-clause-edges : goal.returns-clause-edges
returns-clause-edges c =
    let next = next_of c.loop-i.nodes in
    let nothing = none_paired c.args.pairing c.args.left.now c.args.right.now c.loop-i.i next (omega arith) in
    sym (append-nil c.loop-i.edges) ∙ end_edges c.loop-i.edges c.loop-i.nodes c.args.nodes.now _ _ [] nothing c.loop-i.invariant

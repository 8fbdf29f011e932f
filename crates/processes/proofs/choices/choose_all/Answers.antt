use Rattle.std.proofs.Common.{[], arith, drop, get_or, sym, ◌∙◌}
use Rattle.std.proofs.lemmas.List.{append-nil}
use Rattle.flat_net.specs.Edges.{zero_edge}
use Rattle.lowering.specs.Gates.{chosen, chosen_bits}
use Rattle.lowering.specs.Limits.{next_of}
use Rattle.lowering.specs.Lowered.{after}
use Rattle.lowering.proofs.BoundLemmas.{excused}
use Rattle.lowering.proofs.RemainsLemmas.{end_edges, end_nodes, within}
use Rattle.processes.proofs.ChoiceLemmas.{none_chosen, one_chosen}
use Rattle.processes.proofs.choices.choose_all.Goals as goal

pub returns-in_err-edge-clause-fault : goal.returns-in_err-edge-clause-fault
returns-in_err-edge-clause-fault c =
    let next = next_of c.loop-i.nodes in
    let firsts = c.args.firsts.now in
    let seconds = c.args.seconds.now in
    let i = c.loop-i.i in
    let choice = c.args.choice in
    let first = chosen choice (get_or firsts i zero_edge) (get_or seconds i zero_edge) next in
    let parts = one_chosen choice firsts seconds i zero_edge zero_edge next (omega arith) (omega arith) in
    let le = within c.loop-i.edges c.loop-i.nodes c.args.nodes.now (chosen_bits choice (drop i firsts) (drop i seconds)) _ first _ parts c.loop-i.invariant in
    excused (after next first) _ c.from_residual.result _ c.from_residual.ensures.1 c.in_err-edge.ensures.fault le

pub returns-clause-nodes : goal.returns-clause-nodes
returns-clause-nodes c =
    let nothing = none_chosen c.args.choice c.args.firsts.now c.args.seconds.now c.loop-i.i (next_of c.loop-i.nodes) (omega arith) in
    end_nodes c.loop-i.edges c.loop-i.nodes c.args.nodes.now _ _ [] nothing c.loop-i.invariant

pub returns-clause-edges : goal.returns-clause-edges
returns-clause-edges c =
    let nothing = none_chosen c.args.choice c.args.firsts.now c.args.seconds.now c.loop-i.i (next_of c.loop-i.nodes) (omega arith) in
    sym (append-nil c.loop-i.edges) ∙ end_edges c.loop-i.edges c.loop-i.nodes c.args.nodes.now _ _ [] nothing c.loop-i.invariant

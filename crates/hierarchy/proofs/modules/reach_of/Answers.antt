use Rattle.std.proofs.Common.{subst, sym, ◌∙◌, ap}
use Rattle.hierarchy.specs.Graph.{IsClosed, graph_of}
use Rattle.hierarchy.proofs.DesignLemmas.{closed_graph}
use Rattle.hierarchy.proofs.modules.reach_of.Goals as goal

pub new-requires-clause-closed : goal.new-requires-clause-closed
new-requires-clause-closed c =
    subst IsClosed
    (sym (c.in_ok-graph.ensures ∙ ap (λ place_of. graph_of place_of c.args.modules.now) c.requires.places))
    (closed_graph c.args.modules.now)

use Rattle.std.proofs.Common.{◌<◌, arith, length, map, sym, subst, vec_items, ◌∙◌}
use Rattle.std.proofs.lemmas.Bool.{eqb-true, ne_eqb}
use Rattle.std.proofs.lemmas.List.{length-map}
use Rattle.hierarchy.specs.Graph.{Rooted}
use Rattle.hierarchy.proofs.GraphLemmas.{leads_nowhere_is}
use Rattle.hierarchy.proofs.reach.Reach.leads_nowhere.Goals as goal

pub returns-then-inner-outer : goal.returns-then-inner-outer
returns-then-inner-outer c = λ empty.
    let within_map : c.args.inner < length (map vec_items c.self.inside.graph.items) =
    subst (λ (r : Rooted). c.args.inner < length r.graph) (sym c.self.view_is) c.requires in
    let within : c.args.inner < length c.self.inside.graph.items =
    subst (λ n. c.args.inner < n) (length-map c.self.inside.graph.items vec_items) within_map in
    leads_nowhere_is vec_items c.self.inside.graph.items c.args.inner c.args.outer c.index.result.now within c.index.ensures
    (omega (arith, eqb-true _ 0 (sym c.is_empty.ensures ∙ empty), c.index.result.now.ok.0)) (ne_eqb c.args.inner c.args.outer c.if-inner-outer.true)
    c.self.inside.top c.args.self.now c.self.view_is

use Rattle.std.proofs.Common.{map, sym, vec_items}
use Rattle.hierarchy.proofs.GraphLemmas.{none_back}
use Rattle.hierarchy.proofs.reach.Reach.leads_back.Goals as goal
use Rattle.hierarchy.proofs.reach.Reach.leads_back.Goals.{then-self-via-then-self, then-self-via-else-self+then-leads_nowhere}

pub returns-then-self : goal.returns-then-self
returns-then-self c =
    elim c.then-self.branch [
      | then-self-via-then-self w ↦
          none_back (record { graph = map vec_items c.self.inside.graph.items; top = c.self.inside.top }) c.args.self.now c.args.outer c.args.inner
          c.self.view_is (c.self.invariant.short w.if-self.true) c.requires.reached c.requires.edge
      | then-self-via-else-self+then-leads_nowhere w ↦ sym (w.leads_nowhere.ensures w.if-leads_nowhere.true)
    ]

use Rattle.std.proofs.Common.{vec_items}
use Rattle.hierarchy.proofs.GraphLemmas.{kept_by}
use Rattle.hierarchy.proofs.reach.Reach.new.Goals as goal

pub invariant_of-result : goal.invariant_of-result
invariant_of-result c =
    kept_by vec_items c.args.graph.items c.args.top c.in_ok-reached.reached.items c.in_ok-ends.ends.items c.none_leads_on-is_short.result c.requires.closed
    c.deref.result.now c.deref.ensures.value c.in_ok-reached.ensures.len c.in_ok-reached.ensures.marks
    c.deref-2.result.now c.deref-2.ensures.value c.in_ok-ends.ensures.len c.in_ok-ends.ensures.marks
    c.deref-3.result.now c.deref-3.ensures.value c.deref-4.result.now c.deref-4.ensures.value c.none_leads_on-is_short.ensures

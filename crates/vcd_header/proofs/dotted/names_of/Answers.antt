use Rattle.vcd_header.proofs.PathLemmas.{lower, names_more, parent_kept}
use Rattle.vcd_header.proofs.dotted.names_of.Goals as goal

pub loop-next-smaller : goal.loop-next-smaller
loop-next-smaller c = lower c.args.scopes.now c.loop-next.next c.in-Some.scope _ c.requires.nested c.loop-next.invariant.below c.in-Some.is

pub loop-next-preserved : goal.loop-next-preserved
loop-next-preserved c =
    let inv = c.loop-next.invariant in
    record {
      below = parent_kept c.args.scopes.now c.loop-next.next c.in-Some.scope _ c.requires.nested inv.below c.in-Some.is;
      same = names_more c.args.scopes.now c.loop-next.next c.in-Some.scope _ c.loop-next.names.items c.push.new.self.items _ c.requires.nested inv.below c.in-Some.is c.in_ok-push.ensures.items inv.same;
    }

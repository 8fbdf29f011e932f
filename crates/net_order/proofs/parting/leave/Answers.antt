use Rattle.std.proofs.Common.{ℕ, subst, sym}
use Rattle.net_loops.specs.Loops.{Reads}
use Rattle.net_order.specs.Partings.{IsParting, Parting, StaysIn, with_way}
use Rattle.net_order.proofs.PartLemmas.{cut_parting, cut_stays}
use Rattle.net_order.proofs.StepLemmas.{waits_inside}
use Rattle.net_order.proofs.parting.leave.Goals as goal

pub low_place-low-requires-clause-within : goal.low_place-low-requires-clause-within
low_place-low-requires-clause-within c =
    waits_inside c.args.net.now.nodes (with_way c.args.parts.now c.args.place) c.requires.parts c.args.place c.args.node c.requires.here

pub close-requires-clause-parts : goal.close-requires-clause-parts
close-requires-clause-parts c =
    subst (λ walk. IsParting c.args.net.now.nodes (with_way walk c.args.place)) (sym c.in_ok-join_behind.ensures.same)
    (cut_parting c.args.net.now.nodes c.args.parts.now c.args.place c.requires.parts c.args.node c.requires.here
    c.low_place-low.result c.low_place-low.ensures c.join_behind.new.self.firsts c.in_ok-join_behind.ensures.cut)

pub close-requires-clause-stays : goal.close-requires-clause-stays
close-requires-clause-stays c =
    subst
    (λ (walk : Parting). (next : ℕ) → Reads c.args.net.now.nodes c.args.node next →
    StaysIn walk.done walk.waiting walk.firsts c.args.place next)
    (sym c.in_ok-join_behind.ensures.same)
    (cut_stays c.args.net.now.nodes c.args.parts.now c.args.place c.requires.parts c.args.node c.requires.here
    c.low_place-low.result c.low_place-low.ensures c.join_behind.new.self.firsts c.in_ok-join_behind.ensures.cut)

use Rattle.std.proofs.Common.{ℕ, ap, subst, sym, ◌∙◌}
use Rattle.net_loops.specs.Loops.{Reads}
use Rattle.net_order.specs.Partings.{IsParting, Parting, StaysIn, with_first}
use Rattle.net_order.proofs.ListLemmas.{none_stands}
use Rattle.net_order.proofs.PartLemmas.{left_parting}
use Rattle.net_order.proofs.StepLemmas.{not_first}
use Rattle.net_order.proofs.parting.close.Goals as goal

pub take_part-requires-clause-stays : goal.take_part-requires-clause-stays
take_part-requires-clause-stays c =
    subst
    (λ (walk : Parting). (next : ℕ) → Reads c.args.net.now.nodes c.args.node next →
    StaysIn walk.done walk.waiting walk.firsts c.args.place next)
    (c.in-Some.ensures ∙ ap (with_first c.take_first.new.self) c.if-first-place.true) c.requires.stays

pub returns-in_ok-put_first-in-Some-clause-parts : goal.returns-in_ok-put_first-in-Some-clause-parts
returns-in_ok-put_first-in-Some-clause-parts c =
    subst (λ walk. IsParting c.args.net.now.nodes walk) (c.in-Some.ensures ∙ sym c.in_ok-put_first-in-Some.ensures)
    (left_parting c.args.net.now.nodes c.args.parts.now c.args.place c.requires.parts c.args.node c.requires.here c.requires.stays
    (not_first c.args.net.now.nodes c.args.parts.now c.args.place c.requires.parts c.take_first.new.self c.in-Some.first
    c.in-Some.ensures c.if-first-place.false))

pub returns-in-None-clause-parts : goal.returns-in-None-clause-parts
returns-in-None-clause-parts c =
    subst (λ walk. IsParting c.args.net.now.nodes walk) (sym c.in-None.ensures.1)
    (left_parting c.args.net.now.nodes c.args.parts.now c.args.place c.requires.parts c.args.node c.requires.here c.requires.stays
    (none_stands c.args.parts.now.firsts c.args.place c.in-None.ensures.0))

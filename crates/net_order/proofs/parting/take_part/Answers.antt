use Rattle.std.proofs.Common.{◌↔◌, ℕ, IsTrue, arith, subst}
use Rattle.net_order.specs.Partings.{with_first, with_way}
use Rattle.net_order.specs.Readings.{IsPending}
use Rattle.net_order.proofs.PartLemmas.{place_inside, taken_parting}
use Rattle.net_order.proofs.StepLemmas.{waits_inside}
use Rattle.net_order.proofs.parting.take_part.Goals as goal

pub has_pending-answer-requires-clause-within : goal.has_pending-answer-requires-clause-within
has_pending-answer-requires-clause-within c =
    waits_inside c.args.net.now.nodes (with_way (with_first c.args.parts.now c.args.place) c.args.place) c.requires.parts c.args.place
    c.args.node c.requires.here

pub take_off-requires-clause-within : goal.take_off-requires-clause-within
take_off-requires-clause-within c =
    let inside = place_inside c.args.net.now.nodes (with_first c.args.parts.now c.args.place) c.args.place c.requires.parts in
    omega (arith, inside)

pub returns-clause-parts : goal.returns-clause-parts
returns-clause-parts c =
    taken_parting c.args.net.now.nodes c.args.parts.now c.args.place c.requires.parts c.args.node c.requires.here c.requires.stays
    c.has_pending-answer.result
    (subst
    (λ done. IsTrue c.has_pending-answer.result ↔ ((next : ℕ) × IsPending c.args.net.now.nodes done c.args.node next))
    c.done.ensures c.has_pending-answer.ensures)
    c.take_off.new.parts c.take_off.ensures.taken c.take_off.ensures.count

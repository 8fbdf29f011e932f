use Rattle.std.proofs.Common.{ap, ◌∙◌, Some}
use Rattle.net_order.proofs.StepLemmas.{went_in}
use Rattle.net_order.proofs.parting.part_from.Goals as goal

pub loop-place-init : goal.loop-place-init
loop-place-init c =
    let went =
    went_in c.args.net.now.nodes c.args.parts.now c.args.node c.requires.parts c.requires.rest
    (c.is_seen.ensures ∙ ap Some c.if-is_seen.false) c.enter.new.self c.in_ok-enter.ensures in
    record { parts = went.parts; grows = went.grows; seen = went.seen }

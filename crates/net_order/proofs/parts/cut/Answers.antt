use Rattle.std.proofs.Common.{sym, ◌∙◌}
use Rattle.net_order.proofs.CutLemmas.{cut_all, cut_begun, cut_here, cut_more}
use Rattle.net_order.proofs.parts.cut.Goals as goal

pub loop-last-init : goal.loop-last-init
loop-last-init c = cut_begun c.args.place c.args.firsts.now c.requires

pub returns-then-last-place : goal.returns-then-last-place
returns-then-last-place c =
    cut_here c.args.place c.args.firsts.now c.loop-last.firsts c.loop-last.invariant c.pop.new.self c.push.new.self c.in-Some.last
    c.in-Some.ensures c.if-last-place.true c.in_ok-push.ensures.ok

pub loop-last-preserved : goal.loop-last-preserved
loop-last-preserved c =
    cut_more c.args.place c.args.firsts.now c.loop-last.firsts c.loop-last.invariant c.pop.new.self c.in-Some.last c.in-Some.ensures
    c.if-last-place.false

pub returns : goal.returns
returns c =
    cut_all c.args.place c.args.firsts.now c.loop-last.firsts c.loop-last.invariant c.pop.new.self c.in_default.ensures.0
    (c.in_default.ensures.1 ∙ sym c.in_default.ensures.0)

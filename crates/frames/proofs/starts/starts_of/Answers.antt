use Rattle.std.proofs.Common.{◌<◌, arith, refl, subst}
use Rattle.frames.specs.Standing.{start_with}
use Rattle.frames.proofs.StartLemmas.{all_starts, more_starts, next_excused, no_starts}
use Rattle.frames.proofs.TopLemmas.{passed_on}
use Rattle.frames.proofs.starts.starts_of.Goals as goal

pub loop-i-init : goal.loop-i-init
loop-i-init c =
    no_starts c.args.ground.now c.in_ok-inputs.inputs c.new-list.result (start_with 0 0) c.in_ok-end.end c.new-list.ensures refl
    c.in_ok-end.ensures.same c.in_ok-end.ensures.within

pub next_start-requires : goal.next_start-requires
next_start-requires c = c.loop-i.invariant.within

pub loop-i-preserved : goal.loop-i-preserved
loop-i-preserved c =
    more_starts c.args.ground.now c.requires c.in_ok-inputs.inputs c.in_ok-inputs.ensures.count c.loop-i.i
    (subst (λ n. c.loop-i.i < n) c.len-i-end.ensures.count c.loop-i-test.true) c.loop-i.list c.loop-i.end
    c.loop-i.invariant c.in_ok-places_at.field-0.now c.in_ok-places_at.ensures.places c.push.new.self c.in_ok-end-2.end c.in_ok-push.ensures.ok c.in_ok-end-2.ensures.next
    c.in_ok-end-2.ensures.within

pub returns-clause-starts : goal.returns-clause-starts
returns-clause-starts c =
    all_starts c.args.ground.now c.requires c.in_ok-inputs.inputs c.in_ok-inputs.ensures.count c.loop-i.i c.loop-i.list c.loop-i.end
    (let count = c.len-i-end.ensures.count in omega (arith, count, c.loop-i.auto.i-end, c.loop-i-test.false)) c.loop-i.invariant

pub returns-in_err-end-2-clause-fault : goal.returns-in_err-end-2-clause-fault
returns-in_err-end-2-clause-fault c =
    passed_on _ c.from_residual-in_err-end-2.result c.in_err-end-2.field-0.0 c.from_residual-in_err-end-2.ensures.1
    (next_excused c.args.ground.now c.requires c.in_ok-inputs.inputs c.in_ok-inputs.ensures.count c.loop-i.i
    (subst (λ n. c.loop-i.i < n) c.len-i-end.ensures.count c.loop-i-test.true) c.loop-i.list c.loop-i.end
    c.loop-i.invariant c.in_ok-places_at.field-0.now c.in_ok-places_at.ensures.places c.in_err-end-2.field-0.0 c.in_err-end-2.ensures.fault)

use Rattle.std.proofs.Common.{arith, not, ap, sym, ◌∙◌}
use Rattle.vlog_parse.specs.Reads.{loop, one_more, repeated_until, sees}
use Rattle.vlog_parse.proofs.Loops.{begins, goes_on, repeated_is, same_whole, stops, stuck_at}
use Rattle.vlog_parse.proofs.list.repeated_until.Goals as goal

pub loop-cursor-init : goal.loop-cursor-init
loop-cursor-init g c = (omega arith, λ rule is. begins (λ ts. not (sees c.args.stop.now ts)) (one_more rule) c.new-found.result c.args.cursor.now)

pub loop-cursor-preserved : goal.loop-cursor-preserved
loop-cursor-preserved g c =
    let shorter = c.in_ok-one_more.ensures.consumes in (
      omega arith,
      λ rule is. goes_on (λ ts. not (sees c.args.stop.now ts)) (one_more rule) _ c.loop-cursor.found c.one_more.new.found c.loop-cursor.cursor c.one_more.new.cursor
          (c.loop-cursor.invariant.1 rule is) (ap not (sym c.sees.ensures ∙ c.loop-cursor-test.true)) (c.in_ok-one_more.ensures.reads rule is) shorter,
    )

pub returns-in_err-one_more-clause-reads : goal.returns-in_err-one_more-clause-reads
returns-in_err-one_more-clause-reads g c = λ rule is.
    let whole = repeated_is rule c.args.stop.now c.args.cursor.now c.new-found.result c.new-found.ensures in
    stuck_at (λ ts. not (sees c.args.stop.now ts)) (one_more rule) (repeated_until c.args.stop.now rule c.args.cursor.now) c.loop-cursor.found c.one_more.new.found c.loop-cursor.cursor c.one_more.new.cursor c.in_err-one_more.field-0.0
    (same_whole (λ ts. not (sees c.args.stop.now ts)) (one_more rule) (loop (λ ts. not (sees c.args.stop.now ts)) (one_more rule) c.new-found.result c.args.cursor.now) (repeated_until c.args.stop.now rule c.args.cursor.now) c.loop-cursor.found c.loop-cursor.cursor whole (c.loop-cursor.invariant.1 rule is))
    (ap not (sym c.sees.ensures ∙ c.loop-cursor-test.true)) (c.in_err-one_more.ensures.reads rule is) c.from_residual.result c.from_residual.ensures

pub returns-clause-reads : goal.returns-clause-reads
returns-clause-reads g c = λ rule is.
    let whole = repeated_is rule c.args.stop.now c.args.cursor.now c.new-found.result c.new-found.ensures in
    whole ∙ stops (λ ts. not (sees c.args.stop.now ts)) (one_more rule) _ c.loop-cursor.found c.loop-cursor.cursor (c.loop-cursor.invariant.1 rule is) (ap not (sym c.sees.ensures ∙ c.loop-cursor-test.false))

pub returns-clause-shrinks : goal.returns-clause-shrinks
returns-clause-shrinks g c = c.loop-cursor.invariant.0

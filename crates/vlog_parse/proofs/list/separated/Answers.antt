use Rattle.std.proofs.Common.{arith, codes, sym, ◌∙◌}
use Rattle.vlog_parse.specs.Reads.{loop, one_more_after_comma, sees, separated}
use Rattle.vlog_parse.proofs.Loops.{begins, goes_on, same_whole, separated_goes_on, separated_stuck, stops, stuck_at}
use Rattle.vlog_parse.proofs.list.separated.Goals as goal

pub loop-cursor-init : goal.loop-cursor-init
loop-cursor-init g c = (omega arith, λ rule is. begins (sees (codes ",")) (one_more_after_comma rule) c.one_more.new.found c.one_more.new.cursor)

pub loop-cursor-preserved : goal.loop-cursor-preserved
loop-cursor-preserved g c =
    let shorter = c.in_ok-one_more_after_comma.ensures.consumes in (
      omega arith,
      λ rule is. goes_on (sees (codes ",")) (one_more_after_comma rule) _ c.loop-cursor.found c.one_more_after_comma.new.found c.loop-cursor.cursor c.one_more_after_comma.new.cursor
          (c.loop-cursor.invariant.1 rule is) (sym c.sees.ensures ∙ c.loop-cursor-test.true) (c.in_ok-one_more_after_comma.ensures.reads rule is) shorter,
    )

pub returns-in_err-one_more-clause-reads : goal.returns-in_err-one_more-clause-reads
returns-in_err-one_more-clause-reads g c = λ rule is.
    separated_stuck rule c.args.cursor.now c.new-found.result c.new-found.ensures c.one_more.new.found c.one_more.new.cursor c.in_err-one_more.field-0.0 (c.in_err-one_more.ensures.reads rule is)
    c.from_residual.result c.from_residual.ensures

pub returns-in_err-one_more_after_comma-clause-reads : goal.returns-in_err-one_more_after_comma-clause-reads
returns-in_err-one_more_after_comma-clause-reads g c = λ rule is.
    let whole = separated_goes_on rule c.args.cursor.now c.new-found.result c.new-found.ensures c.one_more.new.found c.one_more.new.cursor (c.in_ok-one_more.ensures.reads rule is) in
    stuck_at (sees (codes ",")) (one_more_after_comma rule) (separated rule c.args.cursor.now) c.loop-cursor.found c.one_more_after_comma.new.found c.loop-cursor.cursor c.one_more_after_comma.new.cursor c.in_err-one_more_after_comma.field-0.0
    (same_whole (sees (codes ",")) (one_more_after_comma rule) (loop (sees (codes ",")) (one_more_after_comma rule) c.one_more.new.found c.one_more.new.cursor) (separated rule c.args.cursor.now) c.loop-cursor.found c.loop-cursor.cursor whole (c.loop-cursor.invariant.1 rule is))
    (sym c.sees.ensures ∙ c.loop-cursor-test.true) (c.in_err-one_more_after_comma.ensures.reads rule is) c.from_residual-in_err-one_more_after_comma.result c.from_residual-in_err-one_more_after_comma.ensures

pub returns-clause-reads : goal.returns-clause-reads
returns-clause-reads g c = λ rule is.
    let whole = separated_goes_on rule c.args.cursor.now c.new-found.result c.new-found.ensures c.one_more.new.found c.one_more.new.cursor (c.in_ok-one_more.ensures.reads rule is) in
    whole ∙ stops (sees (codes ",")) (one_more_after_comma rule) _ c.loop-cursor.found c.loop-cursor.cursor (c.loop-cursor.invariant.1 rule is) (sym c.sees.ensures ∙ c.loop-cursor-test.false)

pub returns-clause-consumes : goal.returns-clause-consumes
returns-clause-consumes g c = let shorter = c.in_ok-one_more.ensures.consumes in omega arith

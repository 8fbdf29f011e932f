use Rattle.std.proofs.Common.{arith, sym, ◌∙◌}
use Rattle.vlog_parse.specs.Chains.{one_unary, sees_unary, unary_operators}
use Rattle.vlog_parse.specs.Reads.{one_more}
use Rattle.vlog_parse.proofs.ChainLoops.{unary_begins}
use Rattle.vlog_parse.proofs.Loops.{goes_on, stops, stuck_at}
use Rattle.vlog_parse.proofs.chain.unary_operators.Goals as goal

pub loop-cursor-init : goal.loop-cursor-init
loop-cursor-init c = (omega arith, unary_begins c.new-found.result c.args.cursor.now c.new-found.ensures)

pub loop-cursor-preserved : goal.loop-cursor-preserved
loop-cursor-preserved c =
    let shorter = c.in_ok-one_more_unary.ensures.consumes in (
      omega arith,
      goes_on sees_unary (one_more one_unary) _ c.loop-cursor.found c.one_more_unary.new.found c.loop-cursor.cursor c.one_more_unary.new.cursor
          c.loop-cursor.invariant.1 (sym c.sees_unary.ensures ∙ c.loop-cursor-test.true) c.in_ok-one_more_unary.ensures.reads shorter,
    )

pub returns-in_err-one_more_unary-clause-reads : goal.returns-in_err-one_more_unary-clause-reads
returns-in_err-one_more_unary-clause-reads c =
    stuck_at sees_unary (one_more one_unary) (unary_operators c.args.cursor.now) c.loop-cursor.found c.one_more_unary.new.found c.loop-cursor.cursor c.one_more_unary.new.cursor c.in_err-one_more_unary.field-0.0
    c.loop-cursor.invariant.1 (sym c.sees_unary.ensures ∙ c.loop-cursor-test.true) c.in_err-one_more_unary.ensures.reads c.from_residual.result c.from_residual.ensures

pub returns-clause-reads : goal.returns-clause-reads
returns-clause-reads c = stops sees_unary (one_more one_unary) _ c.loop-cursor.found c.loop-cursor.cursor c.loop-cursor.invariant.1 (sym c.sees_unary.ensures ∙ c.loop-cursor-test.false)

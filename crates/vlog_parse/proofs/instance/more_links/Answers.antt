use Rattle.std.proofs.Common.{arith, codes, sym, ◌∙◌}
use Rattle.vlog_parse.specs.Gates.{ordered_link}
use Rattle.vlog_parse.specs.Reads.{one_more_after_comma, sees}
use Rattle.vlog_parse.proofs.Loops.{begins, goes_on, stops}
use Rattle.vlog_parse.proofs.Turns.{stuck_into}
use Rattle.vlog_parse.proofs.instance.more_links.Goals as goal

pub loop-alloc-init : goal.loop-alloc-init
loop-alloc-init c = (omega arith, begins (sees (codes ",")) (one_more_after_comma (ordered_link c.args.depth)) c.args.found.now c.args.cursor.now)

pub loop-alloc-preserved : goal.loop-alloc-preserved
loop-alloc-preserved c =
    let shorter = c.in_ok-next_link.ensures.consumes in (
      omega arith,
      goes_on (sees (codes ",")) (one_more_after_comma (ordered_link c.args.depth)) _ c.loop-alloc.found c.next_link.new.found c.loop-alloc.cursor c.next_link.new.cursor
          c.loop-alloc.invariant.1 (sym c.sees.ensures ∙ c.loop-alloc-test.true) c.in_ok-next_link.ensures.reads shorter,
    )

pub returns-in_err-next_link-clause-reads : goal.returns-in_err-next_link-clause-reads
returns-in_err-next_link-clause-reads c =
    stuck_into (sees (codes ",")) (one_more_after_comma (ordered_link c.args.depth)) _ c.loop-alloc.found c.next_link.new.found c.next_link.new.found c.loop-alloc.cursor c.next_link.new.cursor c.in_err-next_link.field-0.0
    c.loop-alloc.invariant.1 (sym c.sees.ensures ∙ c.loop-alloc-test.true) c.in_err-next_link.ensures.reads c.from_residual.result c.from_residual.ensures

pub returns-clause-reads : goal.returns-clause-reads
returns-clause-reads c = stops (sees (codes ",")) (one_more_after_comma (ordered_link c.args.depth)) _ c.loop-alloc.found c.loop-alloc.cursor c.loop-alloc.invariant.1 (sym c.sees.ensures ∙ c.loop-alloc-test.false)

use Rattle.std.proofs.Common.{arith, codes, sym, ◌∙◌}
use Rattle.vlog_tree.specs.Spelling.Declarations as spelling
use Rattle.vlog_parse.specs.Declarations as spec
use Rattle.vlog_parse.specs.Gathers.{add_after_comma, gathered}
use Rattle.vlog_parse.specs.Reads.{loop, sees}
use Rattle.vlog_parse.proofs.GatherLoops.{gathered_goes_on, gathered_stuck}
use Rattle.vlog_parse.proofs.Loops.{begins, goes_on, same_whole, stops, stuck_at}
use Rattle.vlog_parse.proofs.declaration.wire_list.Goals as goal

pub loop-alloc-init : goal.loop-alloc-init
loop-alloc-init c = (omega arith, begins (sees (codes ",")) (add_after_comma (spelling.wire_items c.args.shape) (spec.wire c.args.depth)) c.add_wire.new.items c.add_wire.new.cursor)

pub loop-alloc-preserved : goal.loop-alloc-preserved
loop-alloc-preserved c =
    let shorter = c.in_ok-add_wire_after_comma.ensures.consumes in (
      omega arith,
      goes_on (sees (codes ",")) (add_after_comma (spelling.wire_items c.args.shape) (spec.wire c.args.depth)) _ c.loop-alloc.items c.add_wire_after_comma.new.items c.loop-alloc.cursor c.add_wire_after_comma.new.cursor
          c.loop-alloc.invariant.1 (sym c.sees.ensures ∙ c.loop-alloc-test.true) c.in_ok-add_wire_after_comma.ensures.reads shorter,
    )

pub returns-in_err-add_wire-clause-reads : goal.returns-in_err-add_wire-clause-reads
returns-in_err-add_wire-clause-reads c =
    gathered_stuck (spelling.wire_items c.args.shape) (spec.wire c.args.depth) c.args.cursor.now c.new-items.result c.new-items.ensures c.add_wire.new.items c.add_wire.new.cursor c.in_err-add_wire.field-0.0 c.in_err-add_wire.ensures.reads
    c.from_residual.result c.from_residual.ensures

pub returns-in_err-add_wire_after_comma-clause-reads : goal.returns-in_err-add_wire_after_comma-clause-reads
returns-in_err-add_wire_after_comma-clause-reads c =
    let whole = gathered_goes_on (spelling.wire_items c.args.shape) (spec.wire c.args.depth) c.args.cursor.now c.new-items.result c.new-items.ensures c.add_wire.new.items c.add_wire.new.cursor c.in_ok-add_wire.ensures.reads in
    stuck_at (sees (codes ",")) (add_after_comma (spelling.wire_items c.args.shape) (spec.wire c.args.depth)) (gathered (spelling.wire_items c.args.shape) (spec.wire c.args.depth) c.args.cursor.now) c.loop-alloc.items c.add_wire_after_comma.new.items c.loop-alloc.cursor c.add_wire_after_comma.new.cursor c.in_err-add_wire_after_comma.field-0.0
    (same_whole (sees (codes ",")) (add_after_comma (spelling.wire_items c.args.shape) (spec.wire c.args.depth)) (loop (sees (codes ",")) (add_after_comma (spelling.wire_items c.args.shape) (spec.wire c.args.depth)) c.add_wire.new.items c.add_wire.new.cursor) (gathered (spelling.wire_items c.args.shape) (spec.wire c.args.depth) c.args.cursor.now) c.loop-alloc.items c.loop-alloc.cursor whole c.loop-alloc.invariant.1)
    (sym c.sees.ensures ∙ c.loop-alloc-test.true) c.in_err-add_wire_after_comma.ensures.reads c.from_residual-in_err-add_wire_after_comma.result c.from_residual-in_err-add_wire_after_comma.ensures

pub returns-clause-reads : goal.returns-clause-reads
returns-clause-reads c =
    let whole = gathered_goes_on (spelling.wire_items c.args.shape) (spec.wire c.args.depth) c.args.cursor.now c.new-items.result c.new-items.ensures c.add_wire.new.items c.add_wire.new.cursor c.in_ok-add_wire.ensures.reads in
    whole ∙ stops (sees (codes ",")) (add_after_comma (spelling.wire_items c.args.shape) (spec.wire c.args.depth)) _ c.loop-alloc.items c.loop-alloc.cursor c.loop-alloc.invariant.1 (sym c.sees.ensures ∙ c.loop-alloc-test.false)

pub returns-clause-consumes : goal.returns-clause-consumes
returns-clause-consumes c = let shorter = c.in_ok-add_wire.ensures.consumes in omega arith

use Rattle.std.proofs.Common.{arith, codes, sym, ◌∙◌}
use Rattle.vlog_parse.specs.Modules.{add_port_after_comma, port_list}
use Rattle.vlog_parse.specs.Reads.{loop, sees}
use Rattle.vlog_parse.proofs.Loops.{begins, goes_on, same_whole, stops, stuck_at}
use Rattle.vlog_parse.proofs.ModuleLoops.{ports_go_on}
use Rattle.vlog_parse.proofs.port.port_list.Goals as goal

pub loop-alloc-init : goal.loop-alloc-init
loop-alloc-init c = (omega arith, begins (sees (codes ",")) add_port_after_comma c.add_port.new.ports c.add_port.new.cursor)

pub loop-alloc-preserved : goal.loop-alloc-preserved
loop-alloc-preserved c =
    let shorter = c.in_ok-add_port_after_comma.ensures.consumes in (
      omega arith,
      goes_on (sees (codes ",")) add_port_after_comma _ c.loop-alloc.ports c.add_port_after_comma.new.ports c.loop-alloc.cursor c.add_port_after_comma.new.cursor
          c.loop-alloc.invariant.1 (sym c.sees.ensures ∙ c.loop-alloc-test.true) c.in_ok-add_port_after_comma.ensures.reads shorter,
    )

pub returns-in_err-add_port_after_comma-clause-reads : goal.returns-in_err-add_port_after_comma-clause-reads
returns-in_err-add_port_after_comma-clause-reads c =
    let whole = ports_go_on c.args.cursor.now c.port_shape.new.cursor c.add_port.new.cursor _ c.new.result c.new-2.result c.add_port.new.ports c.in_ok-shape.ensures.reads c.new.ensures c.new-2.ensures c.in_ok-add_port.ensures.reads in
    stuck_at (sees (codes ",")) add_port_after_comma (port_list c.args.cursor.now) c.loop-alloc.ports c.add_port_after_comma.new.ports c.loop-alloc.cursor c.add_port_after_comma.new.cursor c.in_err-add_port_after_comma.field-0.0
    (same_whole (sees (codes ",")) add_port_after_comma (loop (sees (codes ",")) add_port_after_comma c.add_port.new.ports c.add_port.new.cursor) (port_list c.args.cursor.now) c.loop-alloc.ports c.loop-alloc.cursor whole c.loop-alloc.invariant.1)
    (sym c.sees.ensures ∙ c.loop-alloc-test.true) c.in_err-add_port_after_comma.ensures.reads c.from_residual-in_err-add_port_after_comma.result c.from_residual-in_err-add_port_after_comma.ensures

pub returns-clause-reads : goal.returns-clause-reads
returns-clause-reads c =
    let whole = ports_go_on c.args.cursor.now c.port_shape.new.cursor c.add_port.new.cursor _ c.new.result c.new-2.result c.add_port.new.ports c.in_ok-shape.ensures.reads c.new.ensures c.new-2.ensures c.in_ok-add_port.ensures.reads in
    whole ∙ stops (sees (codes ",")) add_port_after_comma _ c.loop-alloc.ports c.loop-alloc.cursor c.loop-alloc.invariant.1 (sym c.sees.ensures ∙ c.loop-alloc-test.false)

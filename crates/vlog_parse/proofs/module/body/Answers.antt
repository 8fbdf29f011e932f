use Rattle.std.proofs.Common.{arith, ap, codes, not, sym, ◌∙◌}
use Rattle.vlog_parse.specs.Gathers.{add, gathered_until}
use Rattle.vlog_parse.specs.Items as rule
use Rattle.vlog_parse.specs.Reads.{loop, sees}
use Rattle.vlog_parse.proofs.Loops.{begins, goes_on, same_whole, stops}
use Rattle.vlog_parse.proofs.ModuleLoops.{stuck_into, until_is}
use Rattle.vlog_parse.proofs.module.body.Goals as goal

pub loop-alloc-init : goal.loop-alloc-init
loop-alloc-init c = (omega arith, begins (λ ts. not (sees (codes "endmodule") ts)) (add (λ group. group) (rule.item c.args.depth)) c.args.items.now c.args.cursor.now)

pub loop-alloc-preserved : goal.loop-alloc-preserved
loop-alloc-preserved c =
    let shorter = c.in_ok-add_item.ensures.consumes in (
      omega arith,
      goes_on (λ ts. not (sees (codes "endmodule") ts)) (add (λ group. group) (rule.item c.args.depth)) _ c.loop-alloc.items c.add_item.new.items c.loop-alloc.cursor c.add_item.new.cursor
          c.loop-alloc.invariant.1 (ap not (sym c.sees.ensures ∙ c.loop-alloc-test.true)) c.in_ok-add_item.ensures.reads shorter,
    )

pub returns-in_err-add_item-clause-reads : goal.returns-in_err-add_item-clause-reads
returns-in_err-add_item-clause-reads c =
    let whole = until_is (codes "endmodule") (λ group. group) (rule.item c.args.depth) c.args.items.now c.args.cursor.now in
    stuck_into (λ ts. not (sees (codes "endmodule") ts)) (add (λ group. group) (rule.item c.args.depth)) (gathered_until (codes "endmodule") (λ group. group) (rule.item c.args.depth) c.args.items.now c.args.cursor.now) c.loop-alloc.items c.add_item.new.items c.loop-alloc.cursor c.add_item.new.cursor c.in_err-add_item.field-0.0
    (same_whole (λ ts. not (sees (codes "endmodule") ts)) (add (λ group. group) (rule.item c.args.depth)) (loop (λ ts. not (sees (codes "endmodule") ts)) (add (λ group. group) (rule.item c.args.depth)) c.args.items.now c.args.cursor.now) (gathered_until (codes "endmodule") (λ group. group) (rule.item c.args.depth) c.args.items.now c.args.cursor.now) c.loop-alloc.items c.loop-alloc.cursor whole c.loop-alloc.invariant.1)
    (ap not (sym c.sees.ensures ∙ c.loop-alloc-test.true)) c.in_err-add_item.ensures.reads c.from_residual.result c.from_residual.ensures

pub returns-clause-reads : goal.returns-clause-reads
returns-clause-reads c =
    let whole = until_is (codes "endmodule") (λ group. group) (rule.item c.args.depth) c.args.items.now c.args.cursor.now in
    whole ∙ stops (λ ts. not (sees (codes "endmodule") ts)) (add (λ group. group) (rule.item c.args.depth)) _ c.loop-alloc.items c.loop-alloc.cursor c.loop-alloc.invariant.1 (ap not (sym c.sees.ensures ∙ c.loop-alloc-test.false))

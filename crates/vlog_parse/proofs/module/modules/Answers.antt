use Rattle.std.proofs.Common.{ap, not, sym, ◌∙◌}
use Rattle.vlog_parse.specs.Modules.{module_rule, modules}
use Rattle.vlog_parse.specs.Reads.{is_end, loop, one_more}
use Rattle.vlog_parse.proofs.Loops.{begins, goes_on, same_whole, stops, stuck_at}
use Rattle.vlog_parse.proofs.ModuleLoops.{modules_are}
use Rattle.vlog_parse.proofs.module.modules.Goals as goal

pub loop-alloc-init : goal.loop-alloc-init
loop-alloc-init c = begins (λ ts. not (is_end ts)) (one_more (module_rule c.args.depth)) c.new-found.result c.args.cursor.now

pub loop-alloc-preserved : goal.loop-alloc-preserved
loop-alloc-preserved c =
    goes_on (λ ts. not (is_end ts)) (one_more (module_rule c.args.depth)) _ c.loop-alloc.found c.one_more.new.found c.loop-alloc.cursor c.one_more.new.cursor
    c.loop-alloc.invariant (ap not (sym c.is_empty.ensures ∙ c.loop-alloc-test.true)) c.in_ok-one_more.ensures.reads c.in_ok-one_more.ensures.consumes

pub returns-in_err-one_more : goal.returns-in_err-one_more
returns-in_err-one_more c =
    let whole = modules_are c.args.depth c.args.cursor.now c.new-found.result c.new-found.ensures in
    record {
      reads =
          stuck_at (λ ts. not (is_end ts)) (one_more (module_rule c.args.depth)) (modules c.args.depth c.args.cursor.now) c.loop-alloc.found c.one_more.new.found c.loop-alloc.cursor c.one_more.new.cursor c.in_err-one_more.field-0.0
          (same_whole (λ ts. not (is_end ts)) (one_more (module_rule c.args.depth)) (loop (λ ts. not (is_end ts)) (one_more (module_rule c.args.depth)) c.new-found.result c.args.cursor.now) (modules c.args.depth c.args.cursor.now) c.loop-alloc.found c.loop-alloc.cursor whole c.loop-alloc.invariant)
          (ap not (sym c.is_empty.ensures ∙ c.loop-alloc-test.true)) c.in_err-one_more.ensures.reads c.from_residual.result c.from_residual.ensures;
    }

pub returns : goal.returns
returns c =
    let whole = modules_are c.args.depth c.args.cursor.now c.new-found.result c.new-found.ensures in
    record {
      reads = whole ∙ stops (λ ts. not (is_end ts)) (one_more (module_rule c.args.depth)) _ c.loop-alloc.found c.loop-alloc.cursor c.loop-alloc.invariant (ap not (sym c.is_empty.ensures ∙ c.loop-alloc-test.false));
    }

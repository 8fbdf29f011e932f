use Rattle.std.proofs.Common.{arith, sym, ◌∙◌}
use Rattle.vlog_parse.specs.Chains.{chain, operation, sees_binary}
use Rattle.vlog_parse.specs.Reads.{loop}
use Rattle.vlog_parse.proofs.ChainLoops.{chain_goes_on, stuck_in}
use Rattle.vlog_parse.proofs.Loops.{begins, goes_on, same_whole, stops}
use Rattle.vlog_parse.proofs.chain.chain.Goals as goal

pub loop-alloc-init : goal.loop-alloc-init
loop-alloc-init g c = (omega arith, λ rule is. begins (sees_binary c.args.level) (operation c.args.level rule) c.in_ok-whole.whole c.operand.new.arg2)

pub loop-alloc-preserved : goal.loop-alloc-preserved
loop-alloc-preserved g c =
    let shorter = c.in_ok-whole-2.ensures.consumes in (
      omega arith,
      λ rule is. goes_on (sees_binary c.args.level) (operation c.args.level rule) _ c.loop-alloc.whole c.in_ok-whole-2.whole c.loop-alloc.cursor c.operation.new.cursor
          (c.loop-alloc.invariant.1 rule is) (sym c.sees_binary.ensures ∙ c.loop-alloc-test.true) (c.in_ok-whole-2.ensures.reads rule is) shorter,
    )

pub returns-in_err-whole-2-clause-reads : goal.returns-in_err-whole-2-clause-reads
returns-in_err-whole-2-clause-reads g c = λ rule is.
    let start = chain_goes_on c.args.level rule c.args.cursor.now c.in_ok-whole.whole c.operand.new.arg2 (is _ _ _ c.in_ok-whole.ensures) in
    stuck_in (sees_binary c.args.level) (operation c.args.level rule) (chain c.args.level rule c.args.cursor.now) c.loop-alloc.whole c.loop-alloc.cursor c.operation.new.cursor c.in_err-whole-2.field-0.0
    (same_whole (sees_binary c.args.level) (operation c.args.level rule) (loop (sees_binary c.args.level) (operation c.args.level rule) c.in_ok-whole.whole c.operand.new.arg2) (chain c.args.level rule c.args.cursor.now) c.loop-alloc.whole c.loop-alloc.cursor start (c.loop-alloc.invariant.1 rule is))
    (sym c.sees_binary.ensures ∙ c.loop-alloc-test.true) (c.in_err-whole-2.ensures.reads rule is) c.from_residual-in_err-whole-2.result c.from_residual-in_err-whole-2.ensures

pub returns-clause-reads : goal.returns-clause-reads
returns-clause-reads g c = λ rule is.
    let start = chain_goes_on c.args.level rule c.args.cursor.now c.in_ok-whole.whole c.operand.new.arg2 (is _ _ _ c.in_ok-whole.ensures) in
    start ∙ stops (sees_binary c.args.level) (operation c.args.level rule) _ c.loop-alloc.whole c.loop-alloc.cursor (c.loop-alloc.invariant.1 rule is) (sym c.sees_binary.ensures ∙ c.loop-alloc-test.false)

use Rattle.std.proofs.Common.{arith, sym, ◌∙◌}
use Rattle.vlog_lexer.proofs.StringLemmas.{line_none, quote_none, taken_next}
use Rattle.vlog_lexer.proofs.form.string_end.Goals as goal

pub loop-at-preserved : goal.loop-at-preserved
loop-at-preserved c = record {
  ordered = omega arith;
  within = omega arith;
  taken = taken_next c.args.source.now c.args.from c.loop-at.at c.loop-at.taken c.takes_next-taken.result c.loop-at.invariant.ordered c.loop-at.invariant.taken c.takes_next-taken.ensures;
  none = quote_none c.args.source.now c.args.from c.loop-at.at c.loop-at.taken c.loop-at.invariant.ordered c.loop-at.invariant.taken (sym c.ends_string.ensures ∙ c.if-ends_string.false) c.loop-at.invariant.none;
  line = line_none c.args.source.now c.args.from c.loop-at.at c.loop-at.invariant.ordered c.if-byte-eq10.false c.loop-at.invariant.line;
}

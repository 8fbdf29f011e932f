use Rattle.std.proofs.Common.{refl}
use Rattle.vlog_words.proofs.Rows.{by_row, no_text}
use Rattle.vlog_parse.specs.Nest.{closings}
use Rattle.vlog_parse.proofs.nest.is_closing.Goals as goal

pub returns-in-empty : goal.returns-in-empty
unfolding closings
returns-in-empty c = no_text closings c.args.text.now c.in-empty.len_below refl

pub returns-in-len1-up : goal.returns-in-len1-up
returns-in-len1-up c = by_row closings _ c.args.text.now _ c.in-len1-up.len_at_least c.closing_row.ensures c.is_among.ensures

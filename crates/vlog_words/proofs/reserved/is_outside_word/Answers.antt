use Rattle.std.proofs.Common.{refl}
use Rattle.vlog_words.specs.Reserved.{outside_words}
use Rattle.vlog_words.proofs.Rows.{by_row, no_text}
use Rattle.vlog_words.proofs.reserved.is_outside_word.Goals as goal

pub returns-in-empty : goal.returns-in-empty
unfolding outside_words
returns-in-empty c = no_text outside_words c.args.text.now c.in-empty.len_below refl

pub returns-in-len1-up : goal.returns-in-len1-up
returns-in-len1-up c = by_row outside_words _ c.args.text.now _ c.in-len1-up.len_at_least c.outside_row.ensures c.is_among.ensures

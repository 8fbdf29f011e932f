use Rattle.std.proofs.Common.{refl}
use Rattle.vlog_words.specs.Reserved.{profile_words}
use Rattle.vlog_words.proofs.Rows.{by_row, no_text}
use Rattle.vlog_words.proofs.reserved.is_profile_word.Goals as goal

pub returns-in-empty : goal.returns-in-empty
unfolding profile_words
returns-in-empty c = no_text profile_words c.args.text.now c.in-empty.len_below refl

pub returns-in-len1-up : goal.returns-in-len1-up
returns-in-len1-up c = by_row profile_words _ c.args.text.now _ c.in-len1-up.len_at_least c.profile_row.ensures c.is_among.ensures

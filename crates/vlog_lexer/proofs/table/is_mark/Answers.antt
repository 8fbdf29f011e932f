use Rattle.std.proofs.Common.{refl}
use Rattle.std.proofs.lemmas.Bool.Decides.{Decides-at}
use Rattle.vlog_tokens.specs.Tables.{marks}
use Rattle.vlog_words.proofs.Rows.{by_row, no_text}
use Rattle.vlog_words.specs.AmongWords.{is_text_among-Decides}
use Rattle.vlog_lexer.proofs.table.is_mark.Goals as goal

pub returns-in-empty : goal.returns-in-empty
unfolding marks
returns-in-empty c =
    Decides-at _ _ (no_text marks c.args.text.now c.in-empty.len_below refl) (is_text_among-Decides marks c.args.text.now)

pub returns-in-len1-up : goal.returns-in-len1-up
returns-in-len1-up c =
    Decides-at _ _ (by_row marks _ c.args.text.now _ c.in-len1-up.len_at_least c.mark_row.ensures c.is_among.ensures)
    (is_text_among-Decides marks c.args.text.now)

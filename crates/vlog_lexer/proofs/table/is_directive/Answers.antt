use Rattle.std.proofs.lemmas.Bool.Decides.{Decides-at}
use Rattle.vlog_tokens.specs.Tables.{directives}
use Rattle.vlog_words.specs.AmongWords.{is_text_among-Decides}
use Rattle.vlog_lexer.proofs.table.is_directive.Goals as goal

pub returns : goal.returns
unfolding directives
returns c = Decides-at _ _ c.is_among.ensures (is_text_among-Decides directives c.args.text.now)

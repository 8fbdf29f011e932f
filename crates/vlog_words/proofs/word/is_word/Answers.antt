use Rattle.std.proofs.Common.{◌≡◌, arith}
use Rattle.std.proofs.lemmas.Bool.Decides.{Decides-at}
use Rattle.std.proofs.lemmas.Grind.{common_steps}
use Rattle.vlog_words.specs.Words.{is_word_text}
use Rattle.vlog_words.proofs.WordText.{is_word_text-Decides}
use Rattle.vlog_words.proofs.word.is_word.Goals as goal

pub returns-then-is_word_start-clause-meaning : goal.returns-then-is_word_start-clause-meaning
returns-then-is_word_start-clause-meaning c =
    let value : c.are_parts.result ≡ is_word_text c.args.text.now = grind (arith, common_steps) in
    Decides-at _ _ value (is_word_text-Decides c.args.text.now)

use Rattle.std.proofs.Common.{arith}
use Rattle.std.proofs.lemmas.Bool.Decides.{Decides-at}
use Rattle.std.proofs.lemmas.Grind.{common_steps}
use Rattle.vlog_words.specs.Words.{reserved_words}
use Rattle.vlog_words.specs.AmongWords.{is_text_among-Decides}
use Rattle.vlog_words.proofs.reserved.is_reserved.Goals as goal

pub returns-then-is_profile_word-clause-value : goal.returns-then-is_profile_word-clause-value
returns-then-is_profile_word-clause-value c = grind (arith, common_steps)

pub returns-then-is_profile_word-clause-meaning : goal.returns-then-is_profile_word-clause-meaning
returns-then-is_profile_word-clause-meaning c =
    Decides-at _ _ (returns-then-is_profile_word-clause-value c) (is_text_among-Decides reserved_words c.args.text.now)

pub returns-else-is_profile_word-clause-value : goal.returns-else-is_profile_word-clause-value
returns-else-is_profile_word-clause-value c = grind (arith, common_steps)

pub returns-else-is_profile_word-clause-meaning : goal.returns-else-is_profile_word-clause-meaning
returns-else-is_profile_word-clause-meaning c =
    Decides-at _ _ (returns-else-is_profile_word-clause-value c) (is_text_among-Decides reserved_words c.args.text.now)

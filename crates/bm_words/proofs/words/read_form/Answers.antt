use Rattle.bm_words.proofs.CommandLemmas.{no_command}
use Rattle.bm_words.proofs.words.read_form.Goals as goal

pub returns-in-None-read_check-clause-refused : goal.returns-in-None-read_check-clause-refused
returns-in-None-read_check-clause-refused c =
    no_command _ c.in-None.ensures.refused c.in-None-read_check.ensures.refused

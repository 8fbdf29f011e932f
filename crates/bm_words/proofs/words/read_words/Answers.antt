use Rattle.std.proofs.Common.{◌≡◌, true, false, subst}
use Rattle.bm_words.specs.Words.{HasFit}
use Rattle.bm_words.specs.Asked.{command_of}
use Rattle.bm_words.proofs.CommandLemmas.{few_cycles, one_command}
use Rattle.bm_words.proofs.words.read_words.Goals as goal

pub returns-in-None-clause-refused : goal.returns-in-None-clause-refused
returns-in-None-clause-refused c = λ d asks. c.in-None.ensures.refused d asks.form (few_cycles d asks.fit)

pub returns-else-is_fit-clause-refused : goal.returns-else-is_fit-clause-refused
returns-else-is_fit-clause-refused c = λ d asks.
    let same : d ≡ command_of c.in-Some.found = one_command _ _ _ asks.form c.in-Some.ensures.form in
    let fit : HasFit (command_of c.in-Some.found) = subst HasFit same asks.fit in
    let contradiction : false ≡ true = c.if-is_fit.ensures.1 fit in cc

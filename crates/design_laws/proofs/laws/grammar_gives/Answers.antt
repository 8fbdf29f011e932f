use Rattle.design_laws.proofs.laws.grammar_gives.Goals as goal
use Rattle.design_laws.proofs.GrammarLemmas.{designs_are}

pub returns : goal.returns
returns c = designs_are

use Rattle.bm_words.proofs.CutLemmas.{cut_gives, cut_needed, last_cut}
use Rattle.bm_words.proofs.reset.cut_reset.Goals as goal

pub returns-in-None-read_level-clause-refused : goal.returns-in-None-read_level-clause-refused
returns-in-None-read_level-clause-refused c = λ reset same.
    let found = c.in-Some.ensures.cases in
    let cut = last_cut c.args.text.now c.in-Some.name.now c.in-Some.value.now found.0 found.1 found.2 found.3 found.4 in
    c.in-None-read_level.ensures.refused reset.1
    (cut_gives c.args.text.now c.in-Some.name.now c.in-Some.value.now reset cut.0 cut.1 same)

pub returns-in-None-clause-refused : goal.returns-in-None-clause-refused
returns-in-None-clause-refused c = λ reset same. cut_needed c.args.text.now reset c.in-None.ensures.cases same

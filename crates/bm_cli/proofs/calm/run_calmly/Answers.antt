use Rattle.std.proofs.Common.{Some, inl, inr, refl, ⊎_elim}
use Rattle.bm_words.specs.Words.{texts}
use Rattle.bm_cli.proofs.CalmLemmas.{no_read_fault, no_write_fault, only_memory}
use Rattle.bm_cli.proofs.calm.run_calmly.Goals as goal

pub returns-clause-no_read_fault : goal.returns-clause-no_read_fault
returns-clause-no_read_fault c = no_read_fault (texts c.args.words.now) (Some c.args.shelf.now) (Some c.run.new.shelf) (Some c.args.out.now) (Some c.run.new.out) c.run.result
    c.run.ensures.words_refused c.run.ensures.keeps

pub returns-clause-no_write_fault : goal.returns-clause-no_write_fault
returns-clause-no_write_fault c = no_write_fault (texts c.args.words.now) (Some c.args.shelf.now) (Some c.run.new.shelf) (Some c.args.out.now) (Some c.run.new.out) c.run.result
    c.run.ensures.words_refused c.run.ensures.keeps

pub returns-clause-comes : goal.returns-clause-comes
returns-clause-comes c = λ command answer whole asks answers. ⊎_elim inl
    (λ fault. inr (only_memory c.run.result fault (returns-clause-no_read_fault c) (returns-clause-no_write_fault c)))
    ((c.run.ensures.keeps command asks).comes c.args.shelf.now whole answer refl answers)

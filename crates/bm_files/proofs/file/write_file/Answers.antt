use Rattle.std.proofs.lemmas.Result.{on_ok_weaker, on_err_weaker}
use Rattle.bm_files.proofs.FileLemmas.{written_whole, written_part}
use Rattle.bm_files.proofs.file.write_file.Goals as goal

pub returns-clause-ok : goal.returns-clause-ok
returns-clause-ok g c = on_ok_weaker c.append.result (λ added. written_whole _ _ _ _ _ c.in_ok-create.ensures.ok added) c.append.ensures.ok

pub returns-clause-err : goal.returns-clause-err
returns-clause-err g c = on_err_weaker c.append.result (λ gained. written_part _ _ _ _ _ c.in_ok-create.ensures.ok gained) c.append.ensures.err

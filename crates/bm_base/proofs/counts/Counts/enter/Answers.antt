use Rattle.std.proofs.Common.{IsTrue, rules, subst, sym}
use Rattle.std.specs.FinMap.{contains_key}
use Rattle.std.specs.String.{string_bytes}
use Rattle.bm_base.specs.Counts.{FaultCounts, SameCounts}
use Rattle.bm_base.proofs.TextMap.{text_map-unchanged, text_map-updates}
use Rattle.bm_base.proofs.CountsLemmas.{contains_key-entered, SameCounts-entered}
use Rattle.bm_base.proofs.counts.Counts.enter.Goals as goal

pub returns-in_err-insert-clause-err : goal.returns-in_err-insert-clause-err
returns-in_err-insert-clause-err c =
    let kept = text_map-unchanged (λ x. x) c.self.inside.counts c.insert.new.self c.in_err-insert.ensures.err in
    search rules

pub returns-clause-ok : goal.returns-clause-ok
returns-clause-ok c =
    let put = text_map-updates (λ x. x) (string_bytes c.in_ok-name.name) c.self.inside.counts c.insert.new.self c.count-count.result c.in_ok-insert.ensures.updates in
    rw (c.self.view_is, c.in_ok-name.ensures.ok, c.count-count.ensures) at put

pub returns-clause-there : goal.returns-clause-there
returns-clause-there c =
    let P : FaultCounts → Type 0 = λ m. IsTrue (contains_key m c.args.name.now) in
    subst P (sym (returns-clause-ok c)) (contains_key-entered c.args.name.now c.args.self.now)

pub returns-clause-same : goal.returns-clause-same
returns-clause-same c =
    let P : FaultCounts → Type 0 = λ m. SameCounts c.args.self.now m in
    subst P (sym (returns-clause-ok c)) (SameCounts-entered c.args.name.now c.args.self.now)

use Rattle.std.proofs.Common.{subst, sym}
use Rattle.std.proofs.lemmas.List.Elements.{All-push}
use Rattle.driver_rules.specs.Selects.{AreNumbered, IsRunOf}
use Rattle.driver_rules.proofs.SelectLemmas.{run_of}
use Rattle.driver_rules.proofs.selects.add_run.Goals as goal

pub returns-in_ok-push-clause-numbered : goal.returns-in_ok-push-clause-numbered
returns-in_ok-push-clause-numbered c = λ numbered.
    subst (AreNumbered c.args.nets.now) (sym c.in_ok-push.ensures.ok)
    (All-push (λ select. IsRunOf c.args.nets.now select.name.now select.bits) c.args.selects.now _ numbered
    (run_of c.args.nets.now c.args.name.now c.bytes.result.now c.args.run c.in-Some.bits c.requires c.in-Some.is c.bytes.ensures))

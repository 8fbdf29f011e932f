use Rattle.std.proofs.Common.{ap, fold, sym, ◌∙◌}
use Rattle.hierarchy.specs.Failures.{earlier}
use Rattle.elab.specs.Ports.{bad_reset, unless_fit}
use Rattle.elab.proofs.ports.note_bad_reset.Goals as goal

pub returns-in-Some : goal.returns-in-Some
returns-in-Some c =
    c.note_unless.ensures
    ∙ ap (λ fit. fold earlier c.args.found.now (unless_fit fit c.in-Some.reset)) c.is_reset_bit.ensures
    ∙ ap (λ reset. fold earlier c.args.found.now (bad_reset c.args.top.now c.args.names.now.clock reset)) (sym c.in-Some.is)

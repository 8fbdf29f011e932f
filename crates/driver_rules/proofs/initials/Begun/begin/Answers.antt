use Rattle.std.proofs.Common.{◌||◌, ap, ◌∙◌}
use Rattle.std.specs.Str.{bytes_eq}
use Rattle.driver_rules.specs.Begun.{begun_in}
use Rattle.driver_rules.proofs.InitialLemmas.{or_other}
use Rattle.driver_rules.proofs.initials.Begun.begin.Goals as goal

pub returns-clause-begun : goal.returns-clause-begun
returns-clause-begun c = λ other.
    c.in_ok-insert.ensures.updates.0 (record { ref_ptr = c.bytes-name.result.ref_ptr; now = other })
    ∙ or_other (bytes_eq c.bytes-name.result.now other) (begun_in c.args.self.now other)
    ∙ ap (λ name. begun_in c.args.self.now other || bytes_eq name other) c.bytes-name.ensures

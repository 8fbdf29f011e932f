use Rattle.std.proofs.Common.{◌∙◌}
use Rattle.std.specs.Str.{bytes_eq}
use Rattle.clock_rules.specs.Kept.{has_left}
use Rattle.clock_rules.proofs.KeptLemmas.{or_other}
use Rattle.clock_rules.proofs.assigned.Assigned.add.Goals as goal

pub returns : goal.returns
returns c = λ other.
    c.in_ok-insert.ensures.updates.0 (record { ref_ptr = c.args.name.ref_ptr; now = other })
    ∙ or_other (bytes_eq c.args.name.now other) (has_left c.args.self.now other)

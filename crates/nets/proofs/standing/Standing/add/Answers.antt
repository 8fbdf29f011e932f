use Rattle.std.proofs.Common.{◌∙◌}
use Rattle.std.specs.Str.{bytes_eq}
use Rattle.nets.specs.Kept.{stands}
use Rattle.nets.proofs.KeptLemmas.{or_other}
use Rattle.nets.proofs.standing.Standing.add.Goals as goal

pub returns : goal.returns
returns c = λ other.
    c.in_ok-insert.ensures.updates.0 (record { ref_ptr = c.args.name.ref_ptr; now = other })
    ∙ or_other (bytes_eq c.args.name.now other) (stands c.args.self.now other)

use Rattle.std.proofs.Common.{ap, sym, ◌∙◌}
use Rattle.clock_sets.specs.Passing.{plain_name}
use Rattle.clock_sets.proofs.plain.plain_name.Goals as goal

pub returns-in-Whole : goal.returns-in-Whole
returns-in-Whole c = c.one_bit.ensures ∙ ap (plain_name c.args.nets.now) (sym c.in-Whole.is)

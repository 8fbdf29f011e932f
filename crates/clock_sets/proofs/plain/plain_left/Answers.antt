use Rattle.std.proofs.Common.{ap, sym, ◌∙◌}
use Rattle.clock_sets.specs.Passing.{plain_left}
use Rattle.clock_sets.proofs.plain.plain_left.Goals as goal

pub returns-in-Whole : goal.returns-in-Whole
returns-in-Whole c = c.one_bit.ensures ∙ ap (plain_left c.args.nets.now) (sym c.in-Whole.is)

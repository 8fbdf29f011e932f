use Rattle.std.proofs.Common.{Some, ap, ◌∙◌}
use Rattle.std.specs.Option.{option_map}
use Rattle.vlog_tree.specs.Meaning.Ranges.{bits_from, span}
use Rattle.driver_rules.proofs.selects.whole_run.Goals as goal

pub returns-in-Some-clause-bits : goal.returns-in-Some-clause-bits
returns-in-Some-clause-bits c =
    ap Some (c.all_of.ensures.bits c.args.name.now) ∙ ap (option_map (λ range. bits_from c.args.name.now 0 (span range))) c.in-Some.ensures.range

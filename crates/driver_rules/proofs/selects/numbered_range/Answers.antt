use Rattle.std.proofs.Common.{Some, ap, ◌∙◌}
use Rattle.driver_rules.proofs.SelectLemmas.{numbered_by, range_found}
use Rattle.driver_rules.proofs.selects.numbered_range.Goals as goal

pub returns-in-Some-clause-range : goal.returns-in-Some-clause-range
returns-in-Some-clause-range c =
    ap Some c.range.ensures
    ∙ range_found c.args.nets.now c.args.name.now c.entry_at.result.0.now c.entry_at.result.1.now c.in-Some.number
    (numbered_by c.args.nets.now c.args.name.now c.bytes.result.now c.in-Some.number c.bytes.ensures c.in-Some.ensures.place)
    c.entry_at.ensures.entry c.entry_at.ensures.value

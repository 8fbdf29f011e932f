use Rattle.driver_rules.specs.Driven.{overlaps_any}
use Rattle.driver_rules.specs.Selects.{assigned}
use Rattle.driver_rules.proofs.DrivenLemmas.{by_first, by_second}
use Rattle.driver_rules.proofs.doubles.is_double.Goals as goal

pub returns-then-overlaps : goal.returns-then-overlaps
returns-then-overlaps c = λ m before others run has more.
    let this = assigned c.args.select.now in
    by_first c.overlaps.result (overlaps_any before this) (overlaps_any others this) (c.overlaps.ensures m before run has) c.if-overlaps.true

pub returns-else-overlaps : goal.returns-else-overlaps
returns-else-overlaps c = λ m before others run has more.
    let this = assigned c.args.select.now in
    by_second c.overlaps.result c.overlaps-else-overlaps.result (overlaps_any before this) (overlaps_any others this)
    (c.overlaps.ensures m before run has) c.if-overlaps.false (c.overlaps-else-overlaps.ensures m others run more)

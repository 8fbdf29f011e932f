-- The design and the clock of which a rule is told.
use Rattle.clock_sets.specs.Sets.{Clocked, clocked_by}
use Rattle.clock_rules.specs.declared.clocking.ClockRule.{ClockRule}

abbrev pub ruled : ClockRule → Clocked
ruled rule = clocked_by rule.design.now rule.clock.now

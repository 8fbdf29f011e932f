-- Where each rule on single modules fails.
use Rattle.std.specs.Prelude.{List}
use Rattle.hierarchy.specs.Failures.{Failure}
use Rattle.vlog_tree.specs.declared.design.Design.{Design}
use Rattle.vlog_tree.specs.declared.design.Module.{Module}
use Rattle.name_rules.specs.Declarations as declarations
use Rattle.name_rules.specs.Uses as uses
use Rattle.width_rules.specs.Widths as widths
use Rattle.target_rules.specs.Targets as targets
use Rattle.driver_rules.specs.Doubles as doubles
use Rattle.elab.specs.declared.module_rules.ModuleRule.{ModuleRule}
use Rattle.elab.specs.declared.module_rules.ModuleRule.TheVariants.{BadConnections, BadNames, BadTargets, BadTerminals, BadWidths, DoubleDrivers, UnknownNames}

abbrev pub failures_of : ModuleRule → Design → Module → List Failure
failures_of BadNames design = declarations.bad_names
failures_of UnknownNames design = uses.unknown_names
failures_of BadConnections design = uses.bad_connections design
failures_of BadWidths design = widths.bad_widths
failures_of BadTerminals design = widths.bad_terminals
failures_of BadTargets design = targets.bad_targets design
failures_of DoubleDrivers design = doubles.double_drivers design

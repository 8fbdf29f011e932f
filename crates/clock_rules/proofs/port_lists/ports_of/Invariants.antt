use Rattle.std.proofs.Common.{◌≡◌, ◌++◌, drop, map}
use Rattle.clock_rules.specs.Clocks.{clock_ports}
use Rattle.clock_rules.proofs.port_lists.ports_of.Given as goal

abbrev pub invariant-loop-nets : goal.invariant-loop-nets
invariant-loop-nets l = record {
  same : l.ports ++ map (clock_ports l.uses.design l.uses.top) (drop l.nets-index l.modules) ≡ map (clock_ports l.uses.design l.uses.top) l.modules;
}

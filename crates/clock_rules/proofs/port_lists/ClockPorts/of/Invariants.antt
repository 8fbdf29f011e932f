use Rattle.std.proofs.Common.{◌≡◌, ◌++◌, drop, filter, map}
use Rattle.nets.specs.Nets.{nets}
use Rattle.clock_rules.specs.Clocks.{clock_ports, is_clock_port}
use Rattle.clock_rules.proofs.port_lists.ClockPorts.of.Given as goal

abbrev pub invariant-loop-i : goal.invariant-loop-i
invariant-loop-i l = record {
  same : l.ports ++ filter (is_clock_port l.uses.design l.uses.top l.nets) (map (λ entry. entry.0) (drop l.i (nets l.nets))) ≡ clock_ports l.uses.design l.uses.top l.nets;
}

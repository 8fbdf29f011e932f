use Rattle.std.proofs.Common.{◌≡◌, drop}
use Rattle.nets.specs.Nets.{net_of}
use Rattle.nets.specs.Placed.{entries_shown, placed}
use Rattle.nets.proofs.placing.place_ports.Given as goal

abbrev pub invariant-loop-port : goal.invariant-loop-port
invariant-loop-port l = record {
  same : placed (net_of l.facts.m.now) (entries_shown l.table.entries) (drop l.port-index l.port-items) ≡ placed (net_of l.facts.m.now) (entries_shown l.initial.table.entries) l.port-items;
}

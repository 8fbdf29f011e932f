use Rattle.std.proofs.Common.{◌≡◌, drop}
use Rattle.std.specs.List.{list_any}
use Rattle.clock_rules.specs.Kept.{is_unplain_by, plain_in}
use Rattle.clock_rules.proofs.port_lists.has_unplain.Given as goal

abbrev pub invariant-loop-port : goal.invariant-loop-port
invariant-loop-port l = record {
  same : list_any (λ port. is_unplain_by (plain_in l.connected port.now)) (drop l.port-index l.ports) ≡ list_any (λ port. is_unplain_by (plain_in l.connected port.now)) l.ports;
}

use Rattle.std.proofs.Common.{◌≡◌, ◌++◌, drop, flat_map}
use Rattle.nets.specs.Nets.{nets}
use Rattle.elab.specs.Placed.{label_unless_clock}
use Rattle.elab.specs.Plans.{port_labels}
use Rattle.elab.proofs.labels.port_labels.Given as goal

abbrev pub invariant-loop-place : goal.invariant-loop-place
invariant-loop-place l = record {
  same : l.ports ++ flat_map (label_unless_clock l.clock) (drop l.place (nets l.top)) ≡ port_labels l.clock l.top;
}

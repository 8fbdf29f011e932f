use Rattle.std.proofs.Common.{◌≡◌, ◌+◌, drop}
use Rattle.std.specs.Option.{option_map}
use Rattle.elab.specs.Placed.{bits_before}
use Rattle.elab.proofs.beginning.bits_before.Given as goal

abbrev pub invariant-loop-port : goal.invariant-loop-port
invariant-loop-port l = record {
  same : option_map (λ more. l.bits + more) (bits_before (drop l.port-index l.ports) l.name) ≡ bits_before l.ports l.name;
}

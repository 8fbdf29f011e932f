use Rattle.std.proofs.Common.{◌≡◌, drop, flat_map, fold}
use Rattle.hierarchy.specs.Failures.{earlier}
use Rattle.nets.specs.Nets.{nets}
use Rattle.clock_rules.specs.Clocks.{bad_output}
use Rattle.clock_rules.proofs.data_reads.note_outputs.Given as goal

abbrev pub invariant-loop-i : goal.invariant-loop-i
invariant-loop-i l = record {
  same : fold earlier l.found (flat_map (λ entry. bad_output l.names l.nets entry.0) (drop l.i (nets l.nets))) ≡ fold earlier l.initial.found (flat_map (λ entry. bad_output l.names l.nets entry.0) (nets l.nets));
}

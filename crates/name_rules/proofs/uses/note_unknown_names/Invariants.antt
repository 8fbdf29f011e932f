use Rattle.std.proofs.Common.{◌≡◌, drop, flat_map, fold}
use Rattle.hierarchy.specs.Failures.{earlier}
use Rattle.nets.specs.Used.{shown}
use Rattle.name_rules.specs.Uses.{unknown_use}
use Rattle.name_rules.proofs.uses.note_unknown_names.Given as goal

abbrev pub invariant-loop-one : goal.invariant-loop-one
invariant-loop-one l = record {
  same : fold earlier l.found (flat_map (unknown_use l.nets) (shown (drop l.one-index l.one-items))) ≡ fold earlier l.initial.found (flat_map (unknown_use l.nets) (shown l.one-items));
}

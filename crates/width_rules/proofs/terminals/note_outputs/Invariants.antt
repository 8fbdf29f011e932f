use Rattle.std.proofs.Common.{◌≡◌, drop, flat_map, fold}
use Rattle.hierarchy.specs.Failures.{earlier}
use Rattle.width_rules.specs.Widths.{bad_terminal, left_shape}
use Rattle.width_rules.proofs.terminals.note_outputs.Given as goal

-- What is found so far, and then in those that are left, is what is found in all.
abbrev pub invariant-loop-out : goal.invariant-loop-out
invariant-loop-out l = record {
  same : fold earlier l.found (flat_map (λ out. bad_terminal l.nets (left_shape l.nets out)) (drop l.out-index l.outs)) ≡ fold earlier l.initial.found (flat_map (λ out. bad_terminal l.nets (left_shape l.nets out)) l.outs);
}

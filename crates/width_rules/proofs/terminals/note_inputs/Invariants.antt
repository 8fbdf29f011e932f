use Rattle.std.proofs.Common.{◌≡◌, drop, flat_map, fold}
use Rattle.hierarchy.specs.Failures.{earlier}
use Rattle.width_rules.specs.Widths.{bad_terminal, expr_shape}
use Rattle.width_rules.proofs.terminals.note_inputs.Given as goal

-- What is found so far, and then in those that are left, is what is found in all.
abbrev pub invariant-loop-input : goal.invariant-loop-input
invariant-loop-input l = record {
  same : fold earlier l.found (flat_map (λ input. bad_terminal l.nets (expr_shape l.nets input)) (drop l.input-index l.ins)) ≡ fold earlier l.initial.found (flat_map (λ input. bad_terminal l.nets (expr_shape l.nets input)) l.ins);
}

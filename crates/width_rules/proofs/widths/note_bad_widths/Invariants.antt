use Rattle.std.proofs.Common.{◌≡◌, drop, flat_map, fold}
use Rattle.hierarchy.specs.Failures.{earlier}
use Rattle.width_rules.specs.Widths.{bad_widths_in}
use Rattle.width_rules.proofs.widths.note_bad_widths.Given as goal

-- What is found so far, and then in those that are left, is what is found in all.
abbrev pub invariant-loop-item : goal.invariant-loop-item
invariant-loop-item l = record {
  same : fold earlier l.found (flat_map (bad_widths_in l.nets) (drop l.item-index l.items)) ≡ fold earlier l.initial.found (flat_map (bad_widths_in l.nets) l.items);
}

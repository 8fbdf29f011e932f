use Rattle.std.proofs.Common.{◌≡◌, drop, flat_map, fold}
use Rattle.hierarchy.specs.Failures.{earlier}
use Rattle.target_rules.specs.Judged.{bad_left}
use Rattle.target_rules.proofs.lefts.+lefts.Given as goal

-- What is found so far, and then in those that are left, is what is found in all.
abbrev pub invariant-note_lefts-loop-left : goal.invariant-note_lefts-loop-left
invariant-note_lefts-loop-left l = record {
  same : fold earlier l.found (flat_map (bad_left l.way l.nets) (drop l.left-index l.lefts)) ≡ fold earlier l.initial.found (flat_map (bad_left l.way l.nets) l.lefts);
}

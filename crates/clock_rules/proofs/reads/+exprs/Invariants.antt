use Rattle.std.proofs.Common.{◌≡◌, drop, flat_map, fold, map}
use Rattle.hierarchy.specs.Failures.{earlier}
use Rattle.vlog_tree.specs.Meaning.Uses.{expr_uses, joined}
use Rattle.clock_rules.specs.Clocks.{bad_read}
use Rattle.clock_rules.proofs.reads.+exprs.Given as goal

-- What is found so far, and then in those that are left, is what is found in all.
abbrev pub invariant-note_exprs-loop-part : goal.invariant-note_exprs-loop-part
invariant-note_exprs-loop-part l = record {
  same : fold earlier l.found (flat_map (bad_read l.names l.nets) (joined (map expr_uses (drop l.part-index l.parts)))) ≡ fold earlier l.initial.found (flat_map (bad_read l.names l.nets) (joined (map expr_uses l.parts)));
}

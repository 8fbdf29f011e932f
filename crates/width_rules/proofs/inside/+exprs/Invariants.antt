use Rattle.std.specs.Prelude.{◌≡◌, None, drop, fold, map}
use Rattle.hierarchy.specs.Failures.{earlier}
use Rattle.width_rules.specs.Capped.{capped, row_after}
use Rattle.width_rules.specs.Widths.{expr_shape, failures_of}
use Rattle.width_rules.proofs.inside.+exprs.Given as goal

-- The row so far and the parts that are left make the whole, and so do the failures.
abbrev pub invariant-note_exprs-loop-part : goal.invariant-note_exprs-loop-part
invariant-note_exprs-loop-part l =
    let shapes = map (expr_shape l.nets) in
    record {
      row : row_after l.row (map capped (shapes (drop l.part-index l.parts))) ≡ row_after None (map capped (shapes l.parts));
      failures : fold earlier l.found (failures_of (shapes (drop l.part-index l.parts)))
          ≡ fold earlier l.initial.found (failures_of (shapes l.parts));
    }

use Rattle.std.proofs.Common.{◌≡◌, drop, is_some, map}
use Rattle.vlog_tree.specs.declared.design.Module.{Module}
use Rattle.vlog_tree.specs.Meaning.Lefts.{target_bits}
use Rattle.vlog_tree.specs.Meaning.Widths.{all_of}
use Rattle.targets.proofs.expressions.+tests.Given as goal

abbrev pub invariant-are_targets-loop-part : goal.invariant-are_targets-loop-part
invariant-are_targets-loop-part l =
    (m : Module) → is_some (all_of (map (target_bits m) (drop l.part-index l.parts))) ≡ is_some (all_of (map (target_bits m) l.parts))

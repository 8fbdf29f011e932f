use Rattle.std.proofs.Common.{◌≡◌, drop}
use Rattle.std.specs.List.{list_all}
use Rattle.std.specs.Prelude.{is_some}
use Rattle.vlog_tree.specs.declared.design.Module.{Module}
use Rattle.vlog_tree.specs.Meaning.Lefts.{target_bits}
use Rattle.target_rules.proofs.assignable.+assignable.Given as goal

-- All can be assigned so far.
abbrev pub invariant-are_assignable-loop-part : goal.invariant-are_assignable-loop-part
invariant-are_assignable-loop-part l =
    (m : Module) → list_all (λ part. is_some (target_bits m part)) (drop l.part-index l.parts) ≡ list_all (λ part. is_some (target_bits m part)) l.parts

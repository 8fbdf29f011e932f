use Rattle.std.proofs.Common.{◌≡◌, ◌++◌, drop, flat_map, is_some, map, true}
use Rattle.targets.specs.Numbers.{assigned_bits, numbers_down}
use Rattle.vlog_tree.specs.Meaning.Lefts.{target_bits}
use Rattle.vlog_tree.specs.Meaning.Widths.{all_of}
use Rattle.targets.proofs.expressions.+targets.Given as goal

-- What is there, and then what is left, is what was there, and then all.
abbrev pub invariant-add_targets-loop-part : goal.invariant-add_targets-loop-part
invariant-add_targets-loop-part g l =
    is_some (all_of (map (target_bits (g.N.Numbers.module_of l.numbers)) l.parts)) ≡ true →
    l.list ++ flat_map (λ part. numbers_down (g.N.Numbers.number_of l.numbers) (assigned_bits (g.N.Numbers.module_of l.numbers) part)) (drop l.part-index l.parts)
    ≡ l.initial.list ++ flat_map (λ part. numbers_down (g.N.Numbers.number_of l.numbers) (assigned_bits (g.N.Numbers.module_of l.numbers) part)) l.parts

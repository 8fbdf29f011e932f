use Rattle.std.proofs.Common.{◌≡◌, ◌++◌, drop, flat_map}
use Rattle.targets.specs.Numbers.{numbers_down}
use Rattle.vlog_tree.specs.Meaning.Lefts.{left_bits}
use Rattle.targets.proofs.lefts.+lefts.Given as goal

-- What is there, and then what is left, is what was there, and then all.
abbrev pub invariant-add_lefts-loop-part : goal.invariant-add_lefts-loop-part
invariant-add_lefts-loop-part g l =
    l.list ++ flat_map (λ part. numbers_down (g.N.Numbers.number_of l.numbers) (left_bits (g.N.Numbers.module_of l.numbers) part)) (drop l.part-index l.parts)
    ≡ l.initial.list ++ flat_map (λ part. numbers_down (g.N.Numbers.number_of l.numbers) (left_bits (g.N.Numbers.module_of l.numbers) part)) l.parts

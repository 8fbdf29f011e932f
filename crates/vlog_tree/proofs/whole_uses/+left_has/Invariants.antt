use Rattle.std.proofs.Common.{◌≡◌, drop}
use Rattle.std.specs.List.{list_any}
use Rattle.vlog_tree.specs.WholeUses.{left_has}
use Rattle.vlog_tree.proofs.whole_uses.+left_has.Given as goal

-- None has it so far.
abbrev pub invariant-any_left_has-loop-left : goal.invariant-any_left_has-loop-left
invariant-any_left_has-loop-left l =
    list_any (left_has l.name) (drop l.left-index l.lefts) ≡ list_any (left_has l.name) l.lefts

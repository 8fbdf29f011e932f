use Rattle.std.proofs.Common.{◌≡◌, drop}
use Rattle.std.specs.Prelude.{find}
use Rattle.vlog_tree.specs.Meaning.Names.{declares}
use Rattle.vlog_tree.proofs.ranges.declared_range.Given as goal

-- None declares it so far.
abbrev pub invariant-loop-item : goal.invariant-loop-item
invariant-loop-item l = find (declares l.name) (drop l.item-index l.items) ≡ find (declares l.name) l.items

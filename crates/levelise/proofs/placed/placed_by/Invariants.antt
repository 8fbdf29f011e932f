use Rattle.std.proofs.Common.{◌≡◌, take}
use Rattle.levelise.specs.Rows.{placed_by}
use Rattle.levelise.proofs.placed.placed_by.Given as goal

abbrev pub invariant-loop-number : goal.invariant-loop-number
invariant-loop-number l = l.row ≡ placed_by l.nodes (take l.number-index l.number-items)

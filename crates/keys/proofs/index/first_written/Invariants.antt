use Rattle.std.proofs.Common.{◌≡◌, drop, filter_map}
use Rattle.nets.specs.Nets.{first_of, written_in}
use Rattle.keys.proofs.index.first_written.Given as goal

-- None writes a range of the name so far.
abbrev pub invariant-loop-item : goal.invariant-loop-item
invariant-loop-item l =
    first_of (filter_map (written_in l.name) (drop l.item-index l.items)) ≡ first_of (filter_map (written_in l.name) l.items)

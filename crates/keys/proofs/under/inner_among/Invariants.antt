use Rattle.std.proofs.Common.{◌≡◌, drop}
use Rattle.keys.specs.Under.{inner_among}
use Rattle.keys.proofs.under.inner_among.Given as goal

-- None is an instance of the name so far.
abbrev pub invariant-loop-item : goal.invariant-loop-item
invariant-loop-item l = inner_among l.design l.name (drop l.item-index l.items) ≡ inner_among l.design l.name l.items

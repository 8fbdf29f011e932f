use Rattle.std.proofs.Common.{drop}
use Rattle.flat_items.proofs.InstanceLemmas.{ItemsLeft, StandLeft}
use Rattle.frames.specs.Numbered.{setting_with}
use Rattle.flat_items.proofs.instance.lower_items.Given as goal

-- What is left of the items makes the whole, and their children stand from the next place on.
abbrev pub invariant-loop-item : goal.invariant-loop-item
invariant-loop-item l =
    ItemsLeft (setting_with l.frames) l.place (drop l.item-index l.items) l.items l.nodes l.initial.nodes l.driven l.initial.driven l.current l.initial.current
    × StandLeft (setting_with l.frames) l.place l.inner (drop l.item-index l.items)

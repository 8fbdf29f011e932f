use Rattle.std.proofs.Common.{◌≡◌, None, drop}
use Rattle.vlog_tree.specs.Meaning.Uses.{Text}
use Rattle.nets.specs.Declaring.{after_items}
use Rattle.nets.specs.Kept.{net_in}
use Rattle.nets.proofs.declarations.Declarations.of.Given as goal

abbrev pub invariant-loop-item : goal.invariant-loop-item
invariant-loop-item l = record {
  same : (name : Text) → after_items name (net_in l.declarations name) (drop l.item-index l.items) ≡ after_items name None l.items;
}

use Rattle.std.proofs.Common.{◌≡◌, ◌||◌, ◌++◌, drop, flat_map}
use Rattle.std.specs.List.{list_any}
use Rattle.vlog_tree.specs.Meaning.Names.{is_named}
use Rattle.vlog_tree.specs.Meaning.Uses.{Text, implicit_uses, item_uses}
use Rattle.nets.specs.Kept.{stands}
use Rattle.nets.specs.Used.{shown}
use Rattle.nets.proofs.used.Used.of.Given as goal

abbrev pub invariant-loop-item : goal.invariant-loop-item
invariant-loop-item l = record {
  uses : shown l.used.uses ++ flat_map item_uses (drop l.item-index l.items) ≡ flat_map item_uses l.items;
  standing : (name : Text) → (stands l.used.standing name || list_any (is_named name) (flat_map implicit_uses (drop l.item-index l.items))) ≡ list_any (is_named name) (flat_map implicit_uses l.items);
}

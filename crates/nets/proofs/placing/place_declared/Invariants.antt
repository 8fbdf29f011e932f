use Rattle.std.proofs.Common.{◌≡◌, drop, filter_map}
use Rattle.vlog_tree.specs.Meaning.Names.{declared_name}
use Rattle.nets.specs.Nets.{net_of}
use Rattle.nets.specs.Placed.{entries_shown, placed}
use Rattle.nets.proofs.placing.place_declared.Given as goal

abbrev pub invariant-loop-item : goal.invariant-loop-item
invariant-loop-item l = record {
  same : placed (net_of l.facts.m.now) (entries_shown l.table.entries) (filter_map declared_name (drop l.item-index l.item-items)) ≡ placed (net_of l.facts.m.now) (entries_shown l.initial.table.entries) (filter_map declared_name l.item-items);
}

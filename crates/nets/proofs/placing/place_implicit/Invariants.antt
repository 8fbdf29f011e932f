use Rattle.std.proofs.Common.{◌≡◌, drop, filter, map}
use Rattle.vlog_tree.specs.Meaning.Names.{is_implicit}
use Rattle.nets.specs.Nets.{net_of}
use Rattle.nets.specs.Placed.{entries_shown, placed}
use Rattle.nets.specs.Used.{shown}
use Rattle.nets.proofs.placing.place_implicit.Given as goal

abbrev pub invariant-loop-one : goal.invariant-loop-one
invariant-loop-one l = record {
  same : placed (net_of l.facts.m.now) (entries_shown l.table.entries) (filter (is_implicit l.facts.m.now) (map (λ one. one.name) (shown (drop l.one-index l.one-items)))) ≡ placed (net_of l.facts.m.now) (entries_shown l.initial.table.entries) (filter (is_implicit l.facts.m.now) (map (λ one. one.name) (shown l.one-items)));
}

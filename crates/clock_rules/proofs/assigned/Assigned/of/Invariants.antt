use Rattle.std.proofs.Common.{◌≡◌, ◌||◌, drop}
use Rattle.std.specs.List.{list_any}
use Rattle.vlog_tree.specs.Meaning.Uses.{Text}
use Rattle.clock_sets.specs.Passing.{plain_assign}
use Rattle.clock_rules.specs.Clocks.{is_assigned}
use Rattle.clock_rules.specs.Kept.{has_left}
use Rattle.clock_rules.proofs.assigned.Assigned.of.Given as goal

abbrev pub invariant-loop-item : goal.invariant-loop-item
invariant-loop-item l = record {
  same : (name : Text) → (has_left l.assigned name || list_any (λ i. is_assigned name (plain_assign l.nets i)) (drop l.item-index l.item-items)) ≡ list_any (λ i. is_assigned name (plain_assign l.nets i)) l.item-items;
}

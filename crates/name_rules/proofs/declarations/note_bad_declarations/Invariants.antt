use Rattle.std.proofs.Common.{◌≡◌, [], drop, fold, take}
use Rattle.hierarchy.specs.Failures.{earlier}
use Rattle.vlog_tree.specs.Meaning.Uses.{Text}
use Rattle.name_rules.specs.Declarations.{bad_declarations_after}
use Rattle.name_rules.specs.Histories.{history_in, said_by}
use Rattle.name_rules.proofs.declarations.note_bad_declarations.Given as goal

abbrev pub invariant-loop-item : goal.invariant-loop-item
invariant-loop-item l = record {
  same : fold earlier l.found (bad_declarations_after l.m (take l.item-index l.item-items) (drop l.item-index l.item-items)) ≡ fold earlier l.initial.found (bad_declarations_after l.m [] l.item-items);
  kept : (name : Text) → history_in l.histories name ≡ said_by (take l.item-index l.item-items) name;
}

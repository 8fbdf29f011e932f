use Rattle.std.proofs.Common.{◌≡◌, [], drop, fold, take}
use Rattle.std.specs.List.{list_any}
use Rattle.hierarchy.specs.Failures.{earlier}
use Rattle.vlog_tree.specs.Meaning.Uses.{Text}
use Rattle.driver_rules.specs.Begun.{begun_in}
use Rattle.driver_rules.specs.Doubles.{begins, second_initials_after}
use Rattle.driver_rules.proofs.initials.note_second_initials.Given as goal

-- What is found so far, and then in those that are left, is what is found in all.
abbrev pub invariant-loop-item : goal.invariant-loop-item
invariant-loop-item l = record {
  same : fold earlier l.found (second_initials_after l.m (take l.item-index l.item-items) (drop l.item-index l.item-items)) ≡ fold earlier l.initial.found (second_initials_after l.m [] l.item-items);
  kept : (name : Text) → begun_in l.begun name ≡ list_any (begins name) (take l.item-index l.item-items);
}

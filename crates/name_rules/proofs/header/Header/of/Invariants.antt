use Rattle.std.proofs.Common.{◌≡◌, [], drop, fold, take}
use Rattle.hierarchy.specs.Failures.{earlier}
use Rattle.vlog_tree.specs.Meaning.Uses.{Text}
use Rattle.name_rules.specs.Declarations.{bad_ports_after, is_among}
use Rattle.name_rules.specs.Headers.{has_in}
use Rattle.name_rules.proofs.header.Header.of.Given as goal

abbrev pub invariant-loop-name : goal.invariant-loop-name
invariant-loop-name l = record {
  same : fold earlier l.found (bad_ports_after l.nets (take l.name-index l.name-items) (drop l.name-index l.name-items)) ≡ fold earlier l.initial.found (bad_ports_after l.nets [] l.name-items);
  kept : (name : Text) → has_in l.header name ≡ is_among (take l.name-index l.name-items) name;
}

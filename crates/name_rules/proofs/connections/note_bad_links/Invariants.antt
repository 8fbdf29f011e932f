use Rattle.std.proofs.Common.{◌≡◌, [], drop, fold, take}
use Rattle.hierarchy.specs.Failures.{earlier}
use Rattle.vlog_tree.specs.Meaning.Uses.{Text}
use Rattle.name_rules.specs.Ports.{port_state, state_in}
use Rattle.name_rules.specs.Uses.{bad_links_after}
use Rattle.name_rules.proofs.connections.note_bad_links.Given as goal

abbrev pub invariant-loop-link : goal.invariant-loop-link
invariant-loop-link l = record {
  same : fold earlier l.found (bad_links_after l.m l.inner (take l.link-index l.links) (drop l.link-index l.links)) ≡ fold earlier l.initial.found (bad_links_after l.m l.inner [] l.links);
  kept : (name : Text) → state_in l.ports name ≡ port_state l.inner.ports (take l.link-index l.links) name;
}

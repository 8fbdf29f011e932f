use Rattle.std.proofs.Common.{◌≡◌, ◌++◌, drop, flat_map}
use Rattle.vlog_tree.specs.Meaning.Uses.{link_uses}
use Rattle.nets.specs.Used.{shown}
use Rattle.nets.proofs.uses.add_links.Given as goal

abbrev pub invariant-loop-link : goal.invariant-loop-link
invariant-loop-link l = record {
  same : shown l.uses ++ flat_map link_uses (drop l.link-index l.links) ≡ shown l.initial.uses ++ flat_map link_uses l.links;
}

use Rattle.std.proofs.Common.{◌≡◌, drop, flat_map, fold}
use Rattle.hierarchy.specs.Failures.{earlier}
use Rattle.width_rules.specs.Widths.{in_link}
use Rattle.width_rules.proofs.widths.note_in_links.Given as goal

-- What is found so far, and then in those that are left, is what is found in all.
abbrev pub invariant-loop-link : goal.invariant-loop-link
invariant-loop-link l = record {
  same : fold earlier l.found (flat_map (in_link l.nets) (drop l.link-index l.links)) ≡ fold earlier l.initial.found (flat_map (in_link l.nets) l.links);
}

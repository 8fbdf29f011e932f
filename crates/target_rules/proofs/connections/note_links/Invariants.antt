use Rattle.std.proofs.Common.{◌≡◌, drop, flat_map, fold}
use Rattle.std.specs.List.{enumerate_from}
use Rattle.hierarchy.specs.Failures.{earlier}
use Rattle.target_rules.specs.Judged.{bad_link}
use Rattle.target_rules.proofs.connections.note_links.Given as goal

-- What is found so far, and then in those that are left, is what is found in all.
abbrev pub invariant-loop-place : goal.invariant-loop-place
invariant-loop-place l = record {
  same : fold earlier l.found (flat_map (bad_link l.nets l.inner) (enumerate_from l.place (drop l.place l.links))) ≡ fold earlier l.initial.found (flat_map (bad_link l.nets l.inner) (enumerate_from 0 l.links));
}

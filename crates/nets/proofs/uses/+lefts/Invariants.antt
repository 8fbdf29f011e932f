use Rattle.std.proofs.Common.{◌≡◌, ◌++◌, drop, map}
use Rattle.vlog_tree.specs.Meaning.Uses.{joined, left_uses}
use Rattle.nets.specs.Used.{shown}
use Rattle.nets.proofs.uses.+lefts.Given as goal

abbrev pub invariant-add_lefts-loop-part : goal.invariant-add_lefts-loop-part
invariant-add_lefts-loop-part l = record {
  same : shown l.uses ++ joined (map left_uses (drop l.part-index l.parts)) ≡ shown l.initial.uses ++ joined (map left_uses l.parts);
}

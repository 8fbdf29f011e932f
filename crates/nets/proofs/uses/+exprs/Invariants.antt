use Rattle.std.proofs.Common.{◌≡◌, ◌++◌, drop, map}
use Rattle.vlog_tree.specs.Meaning.Uses.{joined, expr_uses}
use Rattle.nets.specs.Used.{shown}
use Rattle.nets.proofs.uses.+exprs.Given as goal

abbrev pub invariant-add_exprs-loop-part : goal.invariant-add_exprs-loop-part
invariant-add_exprs-loop-part l = record {
  same : shown l.uses ++ joined (map expr_uses (drop l.part-index l.parts)) ≡ shown l.initial.uses ++ joined (map expr_uses l.parts);
}

use Rattle.std.proofs.Common.{◌≡◌, None, Some, cond, drop, false}
use Rattle.vlog_tree.specs.Meaning.Uses.{Text}
use Rattle.name_rules.specs.Declarations.{is_among}
use Rattle.name_rules.specs.Ports.{state_in}
use Rattle.name_rules.proofs.ports.Ports.of.Given as goal

abbrev pub invariant-loop-name : goal.invariant-loop-name
invariant-loop-name l = record {
  same : (name : Text) → cond (is_among (drop l.name-index l.names) name) (Some false) (state_in l.ports name) ≡ cond (is_among l.names name) (Some false) None;
}

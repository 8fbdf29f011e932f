use Rattle.std.proofs.Common.{◌≡◌, drop, flat_map, fold}
use Rattle.hierarchy.specs.Failures.{earlier}
use Rattle.vlog_tree.specs.Meaning.Uses.{expr_uses}
use Rattle.clock_rules.specs.Clocks.{bad_read}
use Rattle.clock_rules.proofs.data_reads.note_inputs.Given as goal

abbrev pub invariant-loop-input : goal.invariant-loop-input
invariant-loop-input l = record {
  same : fold earlier l.found (flat_map (bad_read l.names l.nets) (flat_map expr_uses (drop l.input-index l.ins))) ≡ fold earlier l.initial.found (flat_map (bad_read l.names l.nets) (flat_map expr_uses l.ins));
}

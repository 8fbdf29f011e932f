use Rattle.std.proofs.Common.{List, flat_map, fold}
use Rattle.hierarchy.specs.Failures.{Failure, earlier}
use Rattle.nets.specs.Nets.{Net, nets}
use Rattle.vlog_tree.specs.Meaning.Uses.{Text}
use Rattle.clock_rules.specs.Clocks.{bad_output}
use Rattle.clock_rules.proofs.ListLemmas.{entry_noted}
use Rattle.clock_rules.proofs.data_reads.note_outputs.Goals as goal

pub loop-i-preserved : goal.loop-i-preserved
loop-i-preserved c =
    let m = c.args.nets.now in
    let bad : Text × Net → List Failure = λ entry. bad_output c.args.names.now m entry.0 in
    record {
      same = entry_noted bad (nets m) c.loop-i.i (c.entry_at.result.0.now, c.entry_at.result.1.now) c.entry_at.ensures.entry
          c.loop-i.found c.note_output.new.found (fold earlier c.args.found.now (flat_map bad (nets m))) c.note_output.ensures c.loop-i.invariant.same;
    }

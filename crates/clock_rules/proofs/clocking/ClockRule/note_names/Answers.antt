use Rattle.std.proofs.Common.{List, flat_map, fold}
use Rattle.hierarchy.specs.Failures.{Failure, earlier}
use Rattle.nets.specs.Nets.{Net, nets}
use Rattle.vlog_tree.specs.Meaning.Uses.{Text}
use Rattle.clock_rules.specs.Clocks.{bad_clock}
use Rattle.clock_rules.specs.Ruled.{ruled}
use Rattle.clock_rules.proofs.ListLemmas.{entry_noted}
use Rattle.clock_rules.proofs.clocking.ClockRule.note_names.Goals as goal

pub loop-i-preserved : goal.loop-i-preserved
loop-i-preserved c =
    let m = c.args.nets.now in
    let bad : Text × Net → List Failure = λ entry. bad_clock (ruled c.args.self.now) m entry.0 in
    record {
      same = entry_noted bad (nets m) c.loop-i.i (c.entry_at.result.0.now, c.entry_at.result.1.now) c.entry_at.ensures.entry
          c.loop-i.found c.note_name.new.found (fold earlier c.args.found.now (flat_map bad (nets m))) c.note_name.ensures c.loop-i.invariant.same;
    }

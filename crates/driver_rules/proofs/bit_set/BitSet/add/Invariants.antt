use Rattle.std.proofs.Common.{◌≤◌, ◌↔◌, btree_map_len}
use Rattle.driver_rules.specs.declared.run.Run.{Run}
use Rattle.driver_rules.specs.Runs.{Reaches, kept_at}
use Rattle.driver_rules.proofs.bit_set.BitSet.add.Given as goal

-- What is kept and the whole have together the bits that were there and those that are added.
abbrev pub invariant-loop-run : goal.invariant-loop-run
invariant-loop-run l = record {
  forward : l.whole.first ≤ l.whole.last;
  same : (x : Run) → x.first ≤ x.last → Reaches (kept_at l.self.runs) l.whole x ↔ Reaches (kept_at l.fn.self.runs) l.fn.bits x;
}

abbrev pub decreases-loop-run : goal.decreases-loop-run
decreases-loop-run l = btree_map_len l.self.runs

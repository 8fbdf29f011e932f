use Rattle.std.proofs.Common.{◌≡◌, fold, length, replicate}
use Rattle.levelise.specs.Machine.{next}
use Rattle.levelise.proofs.levelled.Levelled.after_rows.Given as goal

abbrev pub invariant-loop-cycle : goal.invariant-loop-cycle
invariant-loop-cycle l = record {
  before : l.before ≡ fold (next l.self.net) l.fn.state (replicate l._cycle l.row);
  before_count : length l.before ≡ length l.self.net.power_up;
  after_count : length l.after ≡ length l.self.net.power_up;
  work_count : length l.work ≡ length l.self.net.nodes;
}

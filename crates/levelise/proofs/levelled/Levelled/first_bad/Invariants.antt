use Rattle.std.proofs.Common.{◌≡◌, length}
use Rattle.levelise.specs.Machine.{machine}
use Rattle.levelise.proofs.RunLemmas.{Left}
use Rattle.levelise.proofs.levelled.Levelled.first_bad.Given as goal

abbrev pub invariant-loop-i : goal.invariant-loop-i
invariant-loop-i l = record {
  left : Left (machine l.self) l.t.rows l.i l.before;
  before_count : length l.before ≡ length l.self.net.power_up;
  after_count : length l.after ≡ length l.self.net.power_up;
  work_count : length l.work ≡ length l.self.net.nodes;
}

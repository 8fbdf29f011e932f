use Rattle.std.proofs.Common.{◌≡◌, ◌+◌, length, map}
use Rattle.std.specs.List.{range_with_len}
use Rattle.trace_rows.specs.Run.{state_at}
use Rattle.levelise.specs.Machine.{machine}
use Rattle.levelise.proofs.levelled.Levelled.states.Given as goal

abbrev pub invariant-loop-i : goal.invariant-loop-i
invariant-loop-i l = record {
  states : l.states ≡ map (state_at (machine l.self) l.t.rows) (range_with_len 0 (l.i + 1));
  before : l.before ≡ state_at (machine l.self) l.t.rows l.i;
  before_count : length l.before ≡ length l.self.net.power_up;
  after_count : length l.after ≡ length l.self.net.power_up;
  work_count : length l.work ≡ length l.self.net.nodes;
}

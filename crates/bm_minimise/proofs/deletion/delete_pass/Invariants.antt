use Rattle.std.proofs.Common.{◌≡◌, ◌<◌, length}
use Rattle.std.specs.Bool.{OnFalse, OnTrue}
use Rattle.levelise.specs.Machine.{machine}
use Rattle.levelise.specs.States.{states_of}
use Rattle.trace_rows.specs.Run.{IsFirstAtLast}
use Rattle.bm_minimise.proofs.deletion.delete_pass.Given as goal

abbrev pub invariant-loop-states : goal.invariant-loop-states
invariant-loop-states l = record {
  width : l.trace.width ≡ l.initial.trace.width;
  first : IsFirstAtLast (machine l.net) l.trace.rows;
  states : l.states ≡ states_of (machine l.net) l.trace.rows;
  shorter : OnTrue l.any (length l.trace.rows < length l.initial.trace.rows);
  same : OnFalse l.any (l.trace ≡ l.initial.trace);
  start : OnFalse l.any (l.place ≡ 0);
}

abbrev pub decreases-loop-states : goal.decreases-loop-states
decreases-loop-states l = length l.trace.rows

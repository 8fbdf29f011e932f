use Rattle.std.proofs.Common.{◌≡◌, ◌-◌, ◌<◌, ◌≤◌, ℕ, length, get_or, true}
use Rattle.vlog_tokens.specs.Classes.{is_in}
use Rattle.vlog_lexer.proofs.class.run_end.Given as goal

abbrev pub invariant-loop-to : goal.invariant-loop-to
invariant-loop-to l = record {
  ordered : l.from ≤ l.to;
  within : l.to ≤ length l.source;
  each : (k : ℕ) → l.from ≤ k → k < l.to → is_in l.class (get_or l.source k 0) ≡ true;
}

abbrev pub decreases-loop-to : goal.decreases-loop-to
decreases-loop-to l = length l.source - l.to

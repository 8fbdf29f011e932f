use Rattle.std.proofs.Common.{◌≡◌, ◌+◌, ◌-◌, ◌<◌, ◌≤◌, ℕ, length, get_or, false}
use Rattle.vlog_tokens.specs.Strings.{is_quote, is_taken}
use Rattle.vlog_lexer.proofs.form.string_end.Given as goal

abbrev pub invariant-loop-at : goal.invariant-loop-at
invariant-loop-at l = record {
  ordered : l.from ≤ l.at;
  within : l.at ≤ length l.source;
  taken : l.taken ≡ is_taken l.source l.from (l.at - l.from);
  none : (k : ℕ) → k < l.at - l.from → is_quote l.source l.from k ≡ false;
  line : (k : ℕ) → k < l.at - l.from → get_or l.source (l.from + k) 0 ≡ 10 → ⊥;
}

abbrev pub decreases-loop-at : goal.decreases-loop-at
decreases-loop-at l = length l.source - l.at

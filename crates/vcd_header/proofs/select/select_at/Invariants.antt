use Rattle.std.proofs.Common.{◌≡◌, ◌+◌, ◌≤◌, length, not, take}
use Rattle.std.specs.List.{suffix_len}
use Rattle.vcd_header.specs.Variables.{is_bracket}
use Rattle.vcd_header.proofs.select.select_at.Given as goal

abbrev pub invariant-loop-end : goal.invariant-loop-end
invariant-loop-end l = record {
  within : l.end ≤ length l.text;
  same : l.end + suffix_len (λ byte. not (is_bracket byte)) l.text ≡ length l.text + suffix_len (λ byte. not (is_bracket byte)) (take l.end l.text);
}

abbrev pub decreases-loop-end : goal.decreases-loop-end
decreases-loop-end l = l.end

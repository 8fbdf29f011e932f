use Rattle.std.proofs.Common.{◌≡◌, length}
use Rattle.std.specs.List.{after_first}
use Rattle.vcd_header.specs.Sections.{is_closed, is_end}
use Rattle.vcd_header.proofs.section.skip_section.Given as goal

abbrev pub invariant-loop-token : goal.invariant-loop-token
invariant-loop-token l = record {
  closed : is_closed l.tokens ≡ is_closed l.fn.tokens;
  rest : after_first is_end l.tokens ≡ after_first is_end l.fn.tokens;
}

abbrev pub decreases-loop-token : goal.decreases-loop-token
decreases-loop-token l = length l.tokens

use Rattle.std.proofs.Common.{◌≡◌, ◌≤◌, drop}
use Rattle.vcd_header.specs.Decimals.{number_up_to}
use Rattle.vcd_header.proofs.DecimalLemmas.{number_after}
use Rattle.vcd_header.proofs.decimal.number_up_to.Given as goal

abbrev pub invariant-loop-digit : goal.invariant-loop-digit
invariant-loop-digit l = record {
  small : l.value ≤ l.most;
  same : number_after l.most l.value (drop l.digit-index l.text) ≡ number_up_to l.most l.text;
}

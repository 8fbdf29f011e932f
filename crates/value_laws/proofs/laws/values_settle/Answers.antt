use Rattle.value_laws.proofs.ValueLemmas.{read_grows, read_settled, value_below, value_fixed}
use Rattle.value_laws.proofs.laws.values_settle.Goals as goal

pub returns : goal.returns
returns c = record {
  grows = read_grows;
  settled = read_settled;
  fixed = value_fixed;
  monotone = λ setting state row first second below key. value_below first second below setting state row key;
}

use Rattle.flat_net.proofs.ValueLemmas.{within_grows, within_settled, within_fixed}
use Rattle.flat_net.proofs.laws.settling.Goals as goal

pub returns : goal.returns
returns c = record {
  grows = within_grows;
  settled = within_settled;
  fixed = within_fixed;
}

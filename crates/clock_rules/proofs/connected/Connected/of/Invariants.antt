use Rattle.std.proofs.Common.{◌≡◌, drop}
use Rattle.std.specs.Option.{option_or}
use Rattle.vlog_tree.specs.Meaning.Uses.{Text}
use Rattle.clock_rules.specs.Kept.{connected_from, first_plain, plain_in}
use Rattle.clock_rules.proofs.connected.Connected.of.Given as goal

abbrev pub invariant-loop-place : goal.invariant-loop-place
invariant-loop-place l = record {
  same : (port : Text) → option_or (plain_in l.connected port) (first_plain l.nets port (connected_from l.inner l.place (drop l.place l.links))) ≡ first_plain l.nets port (connected_from l.inner 0 l.links);
}

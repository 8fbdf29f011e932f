use Rattle.std.proofs.Common.{◌≡◌, ◌++◌, ℕ, List, drop, map}
use Rattle.vcd_header.specs.Bits.{source_shown}
use Rattle.vcd_reader.specs.Targets.{targets_from, targets_in}
use Rattle.vcd_reader.proofs.targets.Targets.new.Given as goal

abbrev pub invariant-loop-place : goal.invariant-loop-place
invariant-loop-place l = record {
  same : (code : List ℕ) → targets_in l.targets code ++ targets_from l.place code (map source_shown (drop l.place l.sources)) ≡ targets_from 0 code (map source_shown l.sources);
}

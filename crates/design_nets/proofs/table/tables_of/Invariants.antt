use Rattle.std.proofs.Common.{◌≡◌, ◌++◌, drop}
use Rattle.design_nets.proofs.table.tables_of.Given as goal

abbrev pub invariant-loop-m : goal.invariant-loop-m
invariant-loop-m l = record {
  same : l.tables ++ drop l.m-index l.modules ≡ l.modules;
}

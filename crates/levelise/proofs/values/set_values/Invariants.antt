use Rattle.std.proofs.Common.{◌≡◌, fold, length, take}
use Rattle.levelise.specs.Evaluation.{with_value}
use Rattle.levelise.proofs.values.set_values.Given as goal

abbrev pub invariant-loop-placed : goal.invariant-loop-placed
invariant-loop-placed l = record {
  count : length l.work ≡ length l.fn.work;
  set : l.work ≡ fold (with_value l.state l.row) l.fn.work (take l.placed-index l.nodes);
}

use Rattle.std.proofs.Common.{◌<◌, drop}
use Rattle.keys.specs.Holding.{AreAmongIn}
use Rattle.keys.proofs.path.enter.Given as goal

abbrev pub invariant-loop-item : goal.invariant-loop-item
invariant-loop-item l = record {
  among : AreAmongIn l.frames l.child l.place l.path (drop l.item-index l.item-items);
  later : l.at < l.child;
}

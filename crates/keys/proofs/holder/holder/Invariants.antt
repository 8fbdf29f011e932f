use Rattle.std.proofs.Common.{◌-◌, ◌<◌, ◌≤◌, length}
use Rattle.frames.specs.Numbered.{setting_with}
use Rattle.vlog_tree.specs.Meaning.Instances.{instances}
use Rattle.keys.specs.Kinds.{before}
use Rattle.keys.proofs.holder.holder.Given as goal

abbrev pub invariant-loop-low : goal.invariant-loop-low
invariant-loop-low l = record {
  ordered : l.low < l.high;
  within : l.high ≤ length (instances (setting_with l.frames));
  first : before l.kind (instances (setting_with l.frames)) l.low ≤ l.number;
  last : l.number < before l.kind (instances (setting_with l.frames)) l.high;
}

abbrev pub decreases-loop-low : goal.decreases-loop-low
decreases-loop-low l = l.high - l.low

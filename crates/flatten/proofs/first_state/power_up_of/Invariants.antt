use Rattle.frames.specs.Numbered.{setting_with}
use Rattle.vlog_tree.specs.Meaning.Instances.{instances}
use Rattle.flatten.proofs.PowerLemmas.{AreSet}
use Rattle.flatten.proofs.first_state.power_up_of.Given as goal

abbrev pub invariant-loop-place : goal.invariant-loop-place
invariant-loop-place l = AreSet (instances (setting_with l.frames)) l.place l.first l.bits

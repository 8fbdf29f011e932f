use Rattle.hierarchy.specs.Graph.{ends_path}
use Rattle.hierarchy.proofs.steps.ends_of_longest.Goals as goal

pub returns-clause-marks : goal.returns-clause-marks
unfolding ends_path
returns-clause-marks c = c.in_ok-ends_of_paths.ensures.marks

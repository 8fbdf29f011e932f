use Rattle.std.proofs.Common.{ap, length, ◌∙◌}
use Rattle.vlog_tree.specs.Meaning.Instances.{instances}
use Rattle.frames.specs.Numbered.{setting_with}
use Rattle.frames.proofs.GroundLemmas.{counted}
use Rattle.frames.proofs.ground.Ground.len.Goals as goal

pub returns-clause-count : goal.returns-clause-count
returns-clause-count c =
    c.len.ensures
    ∙ counted _ c.self.inside.instances c.self.inside.places c.self.invariant
    ∙ ap (λ it. length (instances (setting_with it))) c.self.view_is

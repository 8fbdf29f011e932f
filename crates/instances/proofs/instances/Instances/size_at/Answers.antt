use Rattle.std.proofs.Common.{◌∙◌}
use Rattle.instances.proofs.ShapeLemmas.{size_is}
use Rattle.instances.proofs.instances.Instances.size_at.Goals as goal

pub returns-clause-size : goal.returns-clause-size
returns-clause-size c = λ modules shapes h.
    size_is modules c.args.self.now c.as_slice.result.now shapes c.args.place _ (c.as_slice.ensures ∙ c.self.view_is) c.requires h

use Rattle.std.proofs.Common.{◌∙◌}
use Rattle.instances.proofs.ShapeLemmas.{definition_is}
use Rattle.instances.proofs.instances.Instances.module_at.Goals as goal

pub returns-clause-definition : goal.returns-clause-definition
returns-clause-definition c = λ modules shapes h.
    definition_is modules c.args.self.now c.as_slice.result.now shapes c.args.place _ (c.as_slice.ensures ∙ c.self.view_is) c.requires h

use Rattle.vlog_tree.specs.Meaning.Instances.{greatest_depth, top_module}
use Rattle.instances.proofs.StandingLemmas.{top_definitions, top_stand}
use Rattle.instances.proofs.laws.instances_stand.Goals as goal

pub returns-clause-definitions : goal.returns-clause-definitions
returns-clause-definitions c = λ setting m named. top_definitions setting.design greatest_depth (top_module setting) m named

pub returns-clause-children : goal.returns-clause-children
returns-clause-children c =
    λ setting m named whole i outer is. top_stand setting.design greatest_depth (top_module setting) m named whole i outer is

use Rattle.frames.proofs.TopLemmas.{inputs_counted, some_instance}
use Rattle.std.proofs.Common.{◌∙◌}
use Rattle.frames.proofs.ground.Ground.inputs.Goals as goal

pub places_at-requires : goal.places_at-requires
places_at-requires c = some_instance c.args.self.now c.requires

pub returns-in-Ok-clause-count : goal.returns-in-Ok-clause-count
returns-in-Ok-clause-count c =
    c.inputs.ensures.count ∙ inputs_counted c.args.self.now c.requires c.in-Ok.places.now c.in-Ok.ensures.places

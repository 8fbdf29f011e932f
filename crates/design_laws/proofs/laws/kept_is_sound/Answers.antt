use Rattle.design_laws.proofs.Law.{kept_is_sound}
use Rattle.design_laws.proofs.laws.kept_is_sound.Goals as goal

pub returns : goal.returns
returns c = kept_is_sound

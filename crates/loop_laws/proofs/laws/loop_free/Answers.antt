use Rattle.loop_laws.proofs.Law.{loops_are}
use Rattle.loop_laws.proofs.laws.loop_free.Goals as goal

pub returns : goal.returns
returns c = loops_are

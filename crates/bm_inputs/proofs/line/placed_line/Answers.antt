use Rattle.std.proofs.Common.{rules, append_assoc}
use Rattle.bm_inputs.proofs.line.placed_line.Goals as goal

pub returns : goal.returns
returns c = search (rules, append_assoc)

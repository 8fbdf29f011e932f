use Rattle.vlog_parse.proofs.Designs.{one_design_of}
use Rattle.vlog_parse.proofs.laws.one_design.Goals as goal

pub returns : goal.returns
returns c = one_design_of

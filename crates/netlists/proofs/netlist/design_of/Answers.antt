use Rattle.netlists.proofs.ReadLemmas.{spelled_by}
use Rattle.netlists.proofs.netlist.design_of.Goals as goal

pub returns-clause-spelled : goal.returns-clause-spelled
returns-clause-spelled c =
    spelled_by c.args.bytes.now c.in_ok-tokens.tokens.list c.in_ok-design.design c.in_ok-tokens.ensures.spelled.0 c.in_ok-design.ensures.spelled

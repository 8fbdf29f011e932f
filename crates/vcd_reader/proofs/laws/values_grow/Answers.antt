use Rattle.vcd_reader.proofs.ValueLemmas.{change_gives, earlier_sampled, earlier_stay, edges_grow, nothing_comes}
use Rattle.vcd_reader.proofs.laws.values_grow.Goals as goal

pub returns-clause-earlier : goal.returns-clause-earlier
returns-clause-earlier c = earlier_stay

pub returns-clause-change : goal.returns-clause-change
returns-clause-change c = change_gives

pub returns-clause-nothing : goal.returns-clause-nothing
returns-clause-nothing c = nothing_comes

pub returns-clause-edges : goal.returns-clause-edges
returns-clause-edges c = edges_grow

pub returns-clause-sampled : goal.returns-clause-sampled
returns-clause-sampled c = earlier_sampled

use Rattle.netlists.proofs.FaultLemmas.{netlist_or_fault}
use Rattle.netlists.proofs.laws.netlist_or_fault.Goals as goal

pub returns : goal.returns
returns c = netlist_or_fault c.one_token_list.ensures c.tokens_or_fault.ensures c.bytes_spell_one_design.ensures

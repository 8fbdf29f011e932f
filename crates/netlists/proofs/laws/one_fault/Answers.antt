use Rattle.netlists.proofs.FaultLemmas.{one_netlist_fault}
use Rattle.netlists.proofs.laws.one_fault.Goals as goal

pub returns : goal.returns
returns c =
    one_netlist_fault c.one_token_list.ensures c.tokens_or_fault.ensures c.bytes_spell_one_design.ensures c.one_fault.ensures

use Rattle.bm_inputs.proofs.ExclusionLemmas.{files_exclude}
use Rattle.bm_inputs.proofs.laws.files_exclude.Goals as goal

pub returns : goal.returns
returns c = files_exclude c.bytes_spell_one_design.ensures c.netlist_or_fault.ensures c.one_fault.ensures

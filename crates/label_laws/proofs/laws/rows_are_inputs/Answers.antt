use Rattle.label_laws.proofs.RowLemmas.{rows_are}
use Rattle.label_laws.proofs.laws.rows_are_inputs.Goals as goal

pub returns : goal.returns
returns c = rows_are

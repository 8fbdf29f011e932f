use Rattle.processes.proofs.LawLemmas.{items_mean, statement_means, statements_mean}
use Rattle.processes.proofs.laws.statements.Goals as goal

pub returns : goal.returns
returns c = record { statement = statement_means; statements = statements_mean; items = items_mean }

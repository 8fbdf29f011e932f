use Rattle.trace_rows.proofs.PlaceLemmas.{listed, increasing}
use Rattle.trace_rows.proofs.events.events_are_listed.Goals as goal

pub returns-clause-listed : goal.returns-clause-listed
returns-clause-listed c = listed

pub returns-clause-increasing : goal.returns-clause-increasing
returns-clause-increasing c = increasing

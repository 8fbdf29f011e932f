use Rattle.label_laws.proofs.Law.{writable}
use Rattle.label_laws.proofs.laws.labels_are_writable.Goals as goal

pub returns : goal.returns
returns c = writable c.ready.ensures c.names.ensures

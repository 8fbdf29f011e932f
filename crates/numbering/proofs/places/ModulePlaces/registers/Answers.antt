use Rattle.numbering.proofs.PlacedLemmas.{registers_are}
use Rattle.numbering.proofs.places.ModulePlaces.registers.Goals as goal

pub returns-clause-count : goal.returns-clause-count
returns-clause-count c = registers_are _ c.args.self.now c.self.view_is c.self.inside.places c.self.inside.counts c.self.invariant

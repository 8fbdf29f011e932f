use Rattle.lowering.specs.Meaning.{IsAbove, IsBelow}
use Rattle.lowering.proofs.RelationLemmas.{above_kept, below_kept}
use Rattle.flat_design.proofs.MeansLemmas.{drives_mean, ports_mean}
use Rattle.flat_design.proofs.NextLemmas.{flat_has_next}
use Rattle.flat_design.proofs.laws.next.Goals as goal

pub returns : goal.returns
returns c = flat_has_next record {
  drives_up = drives_mean IsBelow below_kept;
  drives_down = drives_mean IsAbove above_kept;
  ports_up = ports_mean IsBelow below_kept;
  ports_down = ports_mean IsAbove above_kept;
}

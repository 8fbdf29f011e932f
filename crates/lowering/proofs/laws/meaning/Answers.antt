use Rattle.lowering.specs.Meaning.{IsAbove, IsBelow}
use Rattle.lowering.proofs.LawLemmas.{assigned_means, choice_means, condition_means, edge_count, expression_means, gate_means}
use Rattle.lowering.proofs.RelationLemmas.{above_kept, below_kept}
use Rattle.lowering.proofs.laws.meaning.Goals as goal

pub returns : goal.returns
returns c = record {
  count = edge_count;
  up = expression_means IsBelow below_kept;
  down = expression_means IsAbove above_kept;
  condition_up = condition_means IsBelow below_kept;
  condition_down = condition_means IsAbove above_kept;
  assigned_up = assigned_means IsBelow below_kept;
  assigned_down = assigned_means IsAbove above_kept;
  gate_up = gate_means IsBelow below_kept;
  gate_down = gate_means IsAbove above_kept;
  choice_up = choice_means IsBelow below_kept;
  choice_down = choice_means IsAbove above_kept;
}

use Rattle.flat_design.proofs.OrderItemLemmas.{expressions_ordered}
use Rattle.flat_design.proofs.laws.order.Goals as goal

pub returns : goal.returns
returns c = expressions_ordered

use Rattle.std.proofs.Common.{subst, sym}
use Rattle.net_order.specs.Marks.{Rising}
use Rattle.net_order.specs.Partings.{Parting}
use Rattle.net_order.proofs.parts.Parts.join_behind.Goals as goal

pub cut-requires : goal.cut-requires
cut-requires c = subst (λ (walk : Parting). Rising walk.firsts) (sym c.self.view_is) c.requires

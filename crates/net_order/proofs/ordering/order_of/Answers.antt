use Rattle.std.proofs.Common.{ap, subst, sym, length, List}
use Rattle.flat_net.specs.declared.node.Node.{Node}
use Rattle.net_order.specs.Orders.{IsOrder}
use Rattle.net_order.specs.Walks.{IsWalk}
use Rattle.net_order.proofs.OrderLemmas.{none_reads_itself, ordered}
use Rattle.net_order.proofs.WalkLemmas.{fresh_walk}
use Rattle.net_order.proofs.ordering.order_of.Goals as goal

pub place_all-requires-clause-walk : goal.place_all-requires-clause-walk
place_all-requires-clause-walk c =
    subst (λ walk. IsWalk c.args.net.now.nodes walk) (sym c.in_ok-walk.ensures)
    (fresh_walk c.args.net.now.nodes (length c.nodes.result.now) (ap (λ (nodes : List Node). length nodes) c.nodes.ensures.nodes))

pub returns-in-Ok-clause-order : goal.returns-in-Ok-clause-order
returns-in-Ok-clause-order c =
    subst (λ order. IsOrder c.args.net.now.nodes order) (sym c.into_order.ensures)
    (ordered c.args.net.now.nodes c.place_all.new.walk c.in-Ok.ensures.walk c.in-Ok.ensures.rest c.in-Ok.ensures.all)

pub returns-in-Ok-clause-none : goal.returns-in-Ok-clause-none
returns-in-Ok-clause-none c =
    none_reads_itself c.args.net.now.nodes c.place_all.new.walk c.in-Ok.ensures.walk c.in-Ok.ensures.rest c.in-Ok.ensures.all

use Rattle.std.proofs.Common.{refl, inl, inr}
use Rattle.net_order.proofs.NodeLemmas.{edge_in, of_one, of_two, pending_of, read_back}
use Rattle.net_order.proofs.reads.pending.Goals as goal

pub without_mark-requires : goal.without_mark-requires
without_mark-requires c =
    edge_in c.args.net.now c.nodes.ensures.net c.nodes.result.now c.nodes.ensures.nodes c.args.number c.requires.within _ c.in-Buf.is
    c.args.marks.now c.requires.count c.in-Buf.edge.node refl

pub first_of-requires-clause-left : goal.first_of-requires-clause-left
first_of-requires-clause-left c =
    edge_in c.args.net.now c.nodes.ensures.net c.nodes.result.now c.nodes.ensures.nodes c.args.number c.requires.within _ c.in-And.is
    c.args.marks.now c.requires.count c.in-And.left.node (inl refl)

pub first_of-requires-clause-right : goal.first_of-requires-clause-right
first_of-requires-clause-right c =
    edge_in c.args.net.now c.nodes.ensures.net c.nodes.result.now c.nodes.ensures.nodes c.args.number c.requires.within _ c.in-And.is
    c.args.marks.now c.requires.count c.in-And.right.node (inr refl)

pub first_of-requires-in-Xor-clause-left : goal.first_of-requires-in-Xor-clause-left
first_of-requires-in-Xor-clause-left c =
    edge_in c.args.net.now c.nodes.ensures.net c.nodes.result.now c.nodes.ensures.nodes c.args.number c.requires.within _ c.in-Xor.is
    c.args.marks.now c.requires.count c.in-Xor.left.node (inl refl)

pub first_of-requires-in-Xor-clause-right : goal.first_of-requires-in-Xor-clause-right
first_of-requires-in-Xor-clause-right c =
    edge_in c.args.net.now c.nodes.ensures.net c.nodes.result.now c.nodes.ensures.nodes c.args.number c.requires.within _ c.in-Xor.is
    c.args.marks.now c.requires.count c.in-Xor.right.node (inr refl)

pub returns-in-Zero : goal.returns-in-Zero
returns-in-Zero c = λ next reads.
    absurd (read_back c.args.net.now c.nodes.ensures.net c.nodes.result.now c.nodes.ensures.nodes c.args.number c.requires.within _
    c.in-Zero.is next reads)

pub returns-in-Input : goal.returns-in-Input
returns-in-Input c = λ next reads.
    absurd (read_back c.args.net.now c.nodes.ensures.net c.nodes.result.now c.nodes.ensures.nodes c.args.number c.requires.within _
    c.in-Input.is next reads)

pub returns-in-Reg : goal.returns-in-Reg
returns-in-Reg c = λ next reads.
    absurd (read_back c.args.net.now c.nodes.ensures.net c.nodes.result.now c.nodes.ensures.nodes c.args.number c.requires.within _
    c.in-Reg.is next reads)

pub returns-in-Buf : goal.returns-in-Buf
returns-in-Buf c =
    pending_of c.args.net.now c.nodes.ensures.net c.nodes.result.now c.nodes.ensures.nodes c.args.number c.requires.within _ c.in-Buf.is
    c.args.marks.now c.without_mark.result (of_one c.args.marks.now c.in-Buf.edge.node c.without_mark.result c.without_mark.ensures)

pub returns-in-And : goal.returns-in-And
returns-in-And c =
    pending_of c.args.net.now c.nodes.ensures.net c.nodes.result.now c.nodes.ensures.nodes c.args.number c.requires.within _ c.in-And.is
    c.args.marks.now c.first_of.result (of_two c.args.marks.now c.in-And.left.node c.in-And.right.node c.first_of.result c.first_of.ensures)

pub returns-in-Xor : goal.returns-in-Xor
returns-in-Xor c =
    pending_of c.args.net.now c.nodes.ensures.net c.nodes.result.now c.nodes.ensures.nodes c.args.number c.requires.within _ c.in-Xor.is
    c.args.marks.now c.first_of-in-Xor.result
    (of_two c.args.marks.now c.in-Xor.left.node c.in-Xor.right.node c.first_of-in-Xor.result c.first_of-in-Xor.ensures)

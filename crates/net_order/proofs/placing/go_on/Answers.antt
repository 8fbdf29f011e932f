use Rattle.std.proofs.Common.{ap, ◌∙◌, Some}
use Rattle.net_order.proofs.WalkLemmas.{loop_found, pending_inside, went_on}
use Rattle.net_order.proofs.placing.go_on.Goals as goal

pub returns-then-is_seen-clause-found : goal.returns-then-is_seen-clause-found
returns-then-is_seen-clause-found c =
    loop_found c.args.net.now.nodes c.args.walk.now c.args.last c.args.next c.requires.walk c.requires.pending.reads
    c.requires.pending.not_marked
    (c.is_seen.ensures ∙ ap Some c.if-is_seen.true)

pub begin-requires : goal.begin-requires
begin-requires c =
    pending_inside c.args.net.now.nodes c.args.walk.now c.args.last c.requires.walk c.args.next c.requires.pending
    c.put_back.new.self c.in_ok-put_back.ensures

pub returns-clause-walk : goal.returns-clause-walk
returns-clause-walk c =
    (went_on c.args.net.now.nodes c.args.walk.now c.args.last c.requires.walk c.args.next c.requires.pending
    (c.is_seen.ensures ∙ ap Some c.if-is_seen.false) c.put_back.new.self c.begin.new.self c.in_ok-put_back.ensures
    c.in_ok-begin.ensures).walk

pub returns-clause-grows : goal.returns-clause-grows
returns-clause-grows c =
    (went_on c.args.net.now.nodes c.args.walk.now c.args.last c.requires.walk c.args.next c.requires.pending
    (c.is_seen.ensures ∙ ap Some c.if-is_seen.false) c.put_back.new.self c.begin.new.self c.in_ok-put_back.ensures
    c.in_ok-begin.ensures).grows

pub returns-clause-smaller : goal.returns-clause-smaller
returns-clause-smaller c =
    (went_on c.args.net.now.nodes c.args.walk.now c.args.last c.requires.walk c.args.next c.requires.pending
    (c.is_seen.ensures ∙ ap Some c.if-is_seen.false) c.put_back.new.self c.begin.new.self c.in_ok-put_back.ensures
    c.in_ok-begin.ensures).smaller

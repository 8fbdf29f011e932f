use Rattle.std.proofs.Common.{◌∙◌}
use Rattle.target_rules.proofs.TargetLemmas.{can_be, cannot_be}
use Rattle.target_rules.proofs.connections.note_unless_assignable.Goals as goal

pub returns-then-not-is_assignable : goal.returns-then-not-is_assignable
returns-then-not-is_assignable c =
    let is = c.is_assignable.ensures c.args.nets.now in
    c.note_whole.ensures ∙ cannot_be c.args.nets.now c.args.expr.now c.args.found.now (let not = c.if-not-is_assignable.true in cc)

pub returns-else-not-is_assignable : goal.returns-else-not-is_assignable
returns-else-not-is_assignable c =
    let is = c.is_assignable.ensures c.args.nets.now in
    can_be c.args.nets.now c.args.expr.now c.args.found.now (let not = c.if-not-is_assignable.false in cc)

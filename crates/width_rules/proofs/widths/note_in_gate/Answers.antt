use Rattle.width_rules.specs.Widths.{expr_shape, left_shape}
use Rattle.width_rules.proofs.ListLemmas.{each_noted}
use Rattle.width_rules.proofs.widths.note_in_gate.Goals as goal

pub returns : goal.returns
returns c =
    let m = c.args.nets.now in
    each_noted (left_shape m) (expr_shape m) c.args.outs.now c.args.ins.now c.args.found.now c.note_lefts.new.found c.note_exprs.new.found
    c.note_lefts.ensures.failures c.note_exprs.ensures.failures

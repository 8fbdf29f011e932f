use Rattle.std.proofs.lemmas.Result.{on_ok_weaker}
use Rattle.nets.specs.Used.{shown}
use Rattle.nets.proofs.UseLemmas.{gate_uses}
use Rattle.nets.proofs.uses.add_gate.Goals as goal

pub returns : goal.returns
returns c =
    on_ok_weaker c.add_exprs.result
    (gate_uses (shown c.args.uses.now) (shown c.add_lefts.new.uses) (shown c.add_exprs.new.uses) c.args.outs.now c.args.ins.now c.in_ok-add_lefts.ensures)
    c.add_exprs.ensures

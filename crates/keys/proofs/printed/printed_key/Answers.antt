use Rattle.std.proofs.lemmas.Result.{IfOk-weaker}
use Rattle.keys.proofs.PrintLemmas.{text_by_plan}
use Rattle.keys.proofs.printed.printed_key.Goals as goal

pub returns : goal.returns
returns c =
    IfOk-weaker _ _ _
    (text_by_plan c.args.design.now c.args.plan.now c.args.node c.in_ok-key.key c.in_ok-key.ensures c.bytes.result.now c.bytes.ensures)
    c.name_of.ensures

use Rattle.std.proofs.Common.{ap, ◌∙◌, ◌++◌, ◌∷◌, []}
use Rattle.std.proofs.lemmas.Result.{on_ok_weaker}
use Rattle.vcd_reader.specs.Targets.{target_at, targets_in}
use Rattle.vcd_reader.proofs.TargetLemmas.{one_added}
use Rattle.vcd_reader.proofs.targets.Targets.add.Goals as goal

pub returns : goal.returns
returns c =
    let target = target_at c.args.place c.args.source.digit in
    on_ok_weaker c.put.result
    (one_added (targets_in c.args.self.now) (targets_in c.take-list.new.self) (targets_in c.put.new.self) c.args.source.code.now target c.push.new.self.items
    (c.in_ok-push.ensures.items ∙ ap (λ list. list ++ target ∷ []) c.take-list.ensures.list) c.take-list.ensures.rest)
    c.put.ensures

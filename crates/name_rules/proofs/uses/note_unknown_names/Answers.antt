use Rattle.std.proofs.Common.{◌∙◌, ap, flat_map, fold, sym}
use Rattle.std.proofs.lemmas.List.{drop_all}
use Rattle.hierarchy.specs.Failures.{earlier}
use Rattle.vlog_tree.specs.Meaning.Uses.{item_uses}
use Rattle.nets.specs.Used.{shown}
use Rattle.name_rules.specs.Uses.{unknown_use}
use Rattle.name_rules.proofs.ListLemmas.{flat_map_nested}
use Rattle.name_rules.proofs.uses.note_unknown_names.Goals as goal

pub returns : goal.returns
returns c =
    let m = c.args.nets.now in
    let uses = c.uses-one-items.result.now in
    sym (ap (λ left. fold earlier c.loop-one.found (flat_map (unknown_use m) (shown left))) (drop_all c.loop-one.one-index uses c.loop-one-test.false))
    ∙ c.loop-one.invariant.same
    ∙ ap (λ used. fold earlier c.args.found.now (flat_map (unknown_use m) used)) c.uses-one-items.ensures
    ∙ ap (fold earlier c.args.found.now) (flat_map_nested (unknown_use m) item_uses m.items)

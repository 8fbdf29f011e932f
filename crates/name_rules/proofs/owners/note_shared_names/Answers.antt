use Rattle.std.proofs.Common.{[], ap, flat_map, fold, sym, ◌++◌, ◌∙◌}
use Rattle.std.proofs.lemmas.List.{drop_all}
use Rattle.hierarchy.specs.Failures.{earlier}
use Rattle.name_rules.specs.Declarations.{implicit_things, own_things, shared_after}
use Rattle.name_rules.specs.Owners.{kept_in, take_thing, walk}
use Rattle.name_rules.proofs.OwnerLemmas.{shared_told}
use Rattle.name_rules.proofs.owners.note_shared_names.Goals as goal

pub returns : goal.returns
returns c =
    let m = c.args.nets.now in
    let items = c.as_slice-item-items.result.now in
    ap (λ walked. walked.found)
    (sym (ap (λ left. fold (take_thing m) (walk c.loop-item.found (kept_in c.loop-item.owners)) (flat_map (λ i. own_things i ++ implicit_things m i) left))
    (drop_all c.loop-item.item-index items c.loop-item-test.false))
    ∙ c.loop-item.invariant.same)
    ∙ shared_told m (flat_map (λ i. own_things i ++ implicit_things m i) items) c.args.found.now (kept_in c.new-owners.result) c.new-owners.ensures
    ∙ ap (λ all. fold earlier c.args.found.now (shared_after m [] (flat_map (λ i. own_things i ++ implicit_things m i) all)))
    (c.as_slice-item-items.ensures ∙ ap (λ one. one.items) c.module-m.ensures)

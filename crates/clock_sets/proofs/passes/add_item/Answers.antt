use Rattle.std.proofs.Common.{◌≡◌, Some, ap, fold, subst, ◌∙◌}
use Rattle.std.specs.Result.{OnOk}
use Rattle.hierarchy.specs.Indexed.{Topped}
use Rattle.vlog_tree.specs.Meaning.Instances.{module_named}
use Rattle.clock_sets.specs.Numbers.{number_of}
use Rattle.clock_sets.specs.Steps.{with_pass}
use Rattle.clock_sets.proofs.WalkLemmas.{item_passes}
use Rattle.clock_sets.proofs.passes.add_item.Goals as goal

pub returns-in-Some : goal.returns-in-Some
returns-in-Some c =
    let found : Some c.in-Some.inner.now ≡ module_named c.args.numbers.now.design c.in-Instance.module =
    c.in-Some.ensures ∙ ap (module_named c.design.result.now.design) c.bytes.ensures ∙ ap (λ (t : Topped). module_named t.design c.in-Instance.module) c.design.ensures in
    subst (λ ps. OnOk c.add_instance.result (c.add_instance.new.steps ≡ fold (with_pass (number_of c.args.numbers.now.design.modules)) c.args.steps.now ps))
    (item_passes c.args.numbers.now.design c.args.nets.now c.in-Some.inner.now c.in-Instance.at c.in-Instance.module c.in-Instance.name c.in-Instance.links
    c.as_slice.result.now c.args.item.now c.as_slice.ensures found c.in-Instance.is)
    c.add_instance.ensures

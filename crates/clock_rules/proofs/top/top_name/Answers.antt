use Rattle.std.proofs.Common.{◌≡◌, ◌<◌, ap, length, slice_get, subst, ◌∙◌}
use Rattle.hierarchy.specs.Indexed.{Topped}
use Rattle.vlog_tree.specs.declared.design.Module.{Module}
use Rattle.vlog_tree.specs.Meaning.Instances.{module_named}
use Rattle.clock_rules.proofs.TopLemmas.{name_there}
use Rattle.clock_rules.proofs.top.top_name.Goals as goal

pub returns : goal.returns
returns c =
    let place = c.top-place.result in
    let Within : Topped → Type 0 = λ it. place < length it.design.modules in
    let Named : Topped → Type 0 = λ it. slice_get it.design.modules place ≡ module_named it.design it.top in
    c.bytes.ensures ∙ ap (λ (m : Module). m.name) c.module.ensures
    ∙ name_there c.args.design.now.design.modules c.modules.result.now c.args.design.now.top place c.index-modules-place.result c.modules.ensures
    (subst Within c.hierarchy.ensures c.top-place.ensures.within) c.index-modules-place.is (subst Named c.hierarchy.ensures c.top-place.ensures.top)

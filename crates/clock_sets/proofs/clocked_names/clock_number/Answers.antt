use Rattle.std.proofs.Common.{◌≡◌, Some, ap, get_or, subst, ◌∙◌}
use Rattle.hierarchy.specs.Graph.{place_among}
use Rattle.hierarchy.specs.Indexed.{Topped}
use Rattle.vlog_tree.specs.declared.design.Module.{Module}
use Rattle.clock_sets.specs.Numbers.{number_of}
use Rattle.clock_sets.specs.Passing.{signal}
use Rattle.clock_sets.proofs.WalkLemmas.{named_so}
use Rattle.clock_sets.proofs.clocked_names.clock_number.Goals as goal

pub returns : goal.returns
returns c =
    let topped = c.args.numbers.now in
    let found : place_among topped.design.modules topped.top ≡ Some c.top-top.result =
    subst (λ (t : Topped). place_among t.design.modules t.top ≡ Some c.top-top.result) (c.hierarchy.ensures ∙ c.design-design.ensures) c.top-top.ensures.place in
    let here : c.index-modules-top.result ≡ get_or topped.design.modules c.top-top.result c.index-modules-top.result =
    c.index-modules-top.is ∙ ap (λ ms. get_or ms c.top-top.result c.index-modules-top.result) (c.modules.ensures ∙ ap (λ (t : Topped). t.design.modules) c.design-design.ensures) in
    c.number_of.ensures
    ∙ ap (λ text. number_of topped.design.modules (signal text c.args.clock.now))
    (c.bytes.ensures ∙ ap (λ (m : Module). m.name) c.module.ensures ∙ named_so topped.design.modules topped.top c.top-top.result c.index-modules-top.result found here)

use Rattle.std.proofs.Common.{◌≡◌, ◌<◌, ◌+◌, Some, None, ap, arith, length, get_or, subst, sym, ◌∙◌}
use Rattle.std.proofs.lemmas.List.{get_or_read}
use Rattle.hierarchy.specs.Graph.{AreDistinct, place_among}
use Rattle.hierarchy.specs.Indexed.{Topped}
use Rattle.clock_sets.specs.Numbers.{number_of}
use Rattle.clock_sets.specs.Passing.{signal}
use Rattle.clock_sets.proofs.NumberLemmas.{length-starts, no_number, number_fits, number_is}
use Rattle.clock_sets.proofs.numbers.Numbers.number_of.Goals as goal

pub index-requires : goal.index-requires
index-requires c =
    let modules = c.self.inside.design.now.design.modules in
    let below : c.in-Some.place < length modules = subst (λ (t : Topped). c.in-Some.place < length t.design.modules) c.hierarchy.ensures c.in-Some.ensures.within in
    let starts : length c.self.inside.starts.items ≡ length modules = ap length c.self.invariant.starts_are ∙ length-starts 0 modules in
    omega (arith, c.self.inside.starts.ok.0)

pub overflow_add-result : goal.overflow_add-result
overflow_add-result c =
    let modules = c.self.inside.design.now.design.modules in
    let below : c.in-Some.place < length modules = subst (λ (t : Topped). c.in-Some.place < length t.design.modules) c.hierarchy.ensures c.in-Some.ensures.within in
    let starts : length c.self.inside.starts.items ≡ length modules = ap length c.self.invariant.starts_are ∙ length-starts 0 modules in
    let read = get_or_read c.self.inside.starts.items _ _ (omega (arith, c.self.inside.starts.ok.0)) c.index.ensures 0 in
    let here : c.index-modules-place.result ≡ get_or modules c.in-Some.place c.index-modules-place.result =
    c.index-modules-place.is ∙ ap (λ ms. get_or ms c.in-Some.place c.index-modules-place.result) c.modules.ensures in
    let fits = number_fits modules c.self.inside.starts.items c.self.invariant.starts_are c.in-Some.place c.index-modules-place.result here c.in-Some-index_of.index c.self.inside.count c.self.invariant.count_is below c.in-Some-index_of.ensures.within in
    let count_fits = c.self.invariant.count_fits in
    omega arith

pub returns-in-Some-index_of : goal.returns-in-Some-index_of
returns-in-Some-index_of c =
    let modules = c.self.inside.design.now.design.modules in
    let found : Some c.in-Some.place ≡ place_among modules c.args.module_name.now = c.in-Some.ensures.place ∙ ap (λ (t : Topped). place_among t.design.modules c.args.module_name.now) c.hierarchy.ensures in
    let distinct : AreDistinct modules = subst (λ (t : Topped). AreDistinct t.design.modules) c.hierarchy.ensures c.in-Some.ensures.distinct in
    let here : c.index-modules-place.result ≡ get_or modules c.in-Some.place c.index-modules-place.result =
    c.index-modules-place.is ∙ ap (λ ms. get_or ms c.in-Some.place c.index-modules-place.result) c.modules.ensures in
    let at = number_is modules c.self.inside.starts.items c.self.invariant.starts_are c.in-Some.place c.index-modules-place.result here c.args.module_name.now c.args.name.now distinct (sym found)
    (Some c.in-Some-index_of.index) c.in-Some-index_of.ensures.place in
    let below : c.in-Some.place < length modules = subst (λ (t : Topped). c.in-Some.place < length t.design.modules) c.hierarchy.ensures c.in-Some.ensures.within in
    let starts : length c.self.inside.starts.items ≡ length modules = ap length c.self.invariant.starts_are ∙ length-starts 0 modules in
    let read = get_or_read c.self.inside.starts.items _ _ (omega (arith, c.self.inside.starts.ok.0)) c.index.ensures 0 in
    ap (λ n. Some (n + c.in-Some-index_of.index)) read
    ∙ at ∙ ap (λ (t : Topped). number_of t.design.modules (signal c.args.module_name.now c.args.name.now)) c.self.view_is

pub returns-in-None-index_of : goal.returns-in-None-index_of
returns-in-None-index_of c =
    let modules = c.self.inside.design.now.design.modules in
    let found : Some c.in-Some.place ≡ place_among modules c.args.module_name.now = c.in-Some.ensures.place ∙ ap (λ (t : Topped). place_among t.design.modules c.args.module_name.now) c.hierarchy.ensures in
    let distinct : AreDistinct modules = subst (λ (t : Topped). AreDistinct t.design.modules) c.hierarchy.ensures c.in-Some.ensures.distinct in
    let here : c.index-modules-place.result ≡ get_or modules c.in-Some.place c.index-modules-place.result =
    c.index-modules-place.is ∙ ap (λ ms. get_or ms c.in-Some.place c.index-modules-place.result) c.modules.ensures in
    let at = number_is modules c.self.inside.starts.items c.self.invariant.starts_are c.in-Some.place c.index-modules-place.result here c.args.module_name.now c.args.name.now distinct (sym found)
    None c.in-None-index_of.ensures.place in
    at ∙ ap (λ (t : Topped). number_of t.design.modules (signal c.args.module_name.now c.args.name.now)) c.self.view_is

pub returns-in-None : goal.returns-in-None
returns-in-None c =
    let modules = c.self.inside.design.now.design.modules in
    let found : None ≡ place_among modules c.args.module_name.now = c.in-None.ensures.place ∙ ap (λ (t : Topped). place_among t.design.modules c.args.module_name.now) c.hierarchy.ensures in
    no_number c.args.module_name.now c.args.name.now modules (sym found)
    ∙ ap (λ (t : Topped). number_of t.design.modules (signal c.args.module_name.now c.args.name.now)) c.self.view_is

use Rattle.std.proofs.Common.{◌≡◌, ap, ◌∙◌, ◌⊎◌, inl, inr}
use Rattle.vlog_tree.specs.Meaning.Uses.{Text}
use Rattle.std.specs.Option.{option_map}
use Rattle.hierarchy.specs.Failures.{first_refusal}
use Rattle.hierarchy.specs.Faults.{refusal_of}
use Rattle.hierarchy.specs.Indexed.{Topped}
use Rattle.hierarchy.specs.Rules.{module_rules}
use Rattle.hierarchy.specs.declared.fault.HierarchyFault.TheVariants.{Memory}
use Rattle.hierarchy.specs.Places.{place_in}
use Rattle.hierarchy.proofs.RuleLemmas.{IsNamed, err_from, indexed, names_differ, refused_third, refused_top, top_below, top_name}
use Rattle.hierarchy.proofs.modules.hierarchy_of.Goals as goal

pub returns-in_err-place-clause-refused : goal.returns-in_err-place-clause-refused
returns-in_err-place-clause-refused c =
    let named : IsNamed c.args.design.now c.as_slice-modules.result.now (place_in c.in_ok-places.places) =
    record { same = c.as_slice-modules.ensures; places = c.in_ok-places.ensures.places; accepted = c.in_ok-places.ensures.accepted } in
    let told : (c.in_err-place.field-0.0 ≡ Memory) ⊎ (first_refusal (module_rules c.args.design.now c.args.top.now) ≡ refusal_of c.in_err-place.field-0.0) =
    inr (refused_top c.args.design.now c.args.top.now c.as_slice-modules.result.now (place_in c.in_ok-places.places) named (refusal_of c.in_err-place.field-0.0)
    c.in_err-place.ensures.refused.0 c.in_err-place.ensures.refused.1) in
    err_from c.from_residual-in_err-place.result c.in_err-place.field-0.0 (λ fault. (fault ≡ Memory) ⊎ (first_refusal (module_rules c.args.design.now c.args.top.now) ≡ refusal_of fault)) c.from_residual-in_err-place.ensures told

pub reach_of-requires-clause-top : goal.reach_of-requires-clause-top
reach_of-requires-clause-top c =
    let named : IsNamed c.args.design.now c.as_slice-modules.result.now (place_in c.in_ok-places.places) =
    record { same = c.as_slice-modules.ensures; places = c.in_ok-places.ensures.places; accepted = c.in_ok-places.ensures.accepted } in
    top_below c.args.design.now c.args.top.now c.as_slice-modules.result.now (place_in c.in_ok-places.places) named c.in_ok-place.place c.in_ok-place.ensures.place

pub returns-in_err-reach-clause-refused : goal.returns-in_err-reach-clause-refused
returns-in_err-reach-clause-refused c =
    let named : IsNamed c.args.design.now c.as_slice-modules.result.now (place_in c.in_ok-places.places) =
    record { same = c.as_slice-modules.ensures; places = c.in_ok-places.ensures.places; accepted = c.in_ok-places.ensures.accepted } in
    let third = refused_third c.args.design.now c.args.top.now c.as_slice-modules.result.now (place_in c.in_ok-places.places) named c.in_ok-place.place c.in_ok-place.ensures.place in
    let told : (c.in_err-reach.field-0.0 ≡ Memory) ⊎ (first_refusal (module_rules c.args.design.now c.args.top.now) ≡ refusal_of c.in_err-reach.field-0.0) =
    elim c.in_err-reach.ensures.refused [ inl e ↦ inl e | inr e ↦ inr (third ∙ e) ] in
    err_from c.from_residual-in_err-reach.result c.in_err-reach.field-0.0 (λ fault. (fault ≡ Memory) ⊎ (first_refusal (module_rules c.args.design.now c.args.top.now) ≡ refusal_of fault)) c.from_residual-in_err-reach.ensures told

pub invariant_of-result : goal.invariant_of-result
invariant_of-result c =
    let named : IsNamed c.args.design.now c.as_slice-modules.result.now (place_in c.in_ok-places.places) =
    record { same = c.as_slice-modules.ensures; places = c.in_ok-places.ensures.places; accepted = c.in_ok-places.ensures.accepted } in
    indexed c.args.design.now c.args.top.now c.as_slice-modules.result.now (place_in c.in_ok-places.places) named c.in_ok-place.place c.in_ok-place.ensures.place
    c.in_ok-reach.reach c.in_ok-reach.ensures.reach

pub returns-clause-of_design : goal.returns-clause-of_design
returns-clause-of_design c =
    let named : IsNamed c.args.design.now c.as_slice-modules.result.now (place_in c.in_ok-places.places) =
    record { same = c.as_slice-modules.ensures; places = c.in_ok-places.ensures.places; accepted = c.in_ok-places.ensures.accepted } in
    let name = top_name c.args.design.now c.args.top.now c.as_slice-modules.result.now (place_in c.in_ok-places.places) named c.in_ok-place.place c.in_ok-place.ensures.place in
    let shown : Text → Topped = λ top. record { design = c.args.design.now; top = top } in
    ap shown name

pub returns-clause-accepted : goal.returns-clause-accepted
returns-clause-accepted c =
    let named : IsNamed c.args.design.now c.as_slice-modules.result.now (place_in c.in_ok-places.places) =
    record { same = c.as_slice-modules.ensures; places = c.in_ok-places.ensures.places; accepted = c.in_ok-places.ensures.accepted } in
    let third = refused_third c.args.design.now c.args.top.now c.as_slice-modules.result.now (place_in c.in_ok-places.places) named c.in_ok-place.place c.in_ok-place.ensures.place in
    third ∙ ap (option_map (λ f. (3, f))) c.in_ok-reach.ensures.accepted

pub returns-clause-distinct : goal.returns-clause-distinct
returns-clause-distinct c =
    let named : IsNamed c.args.design.now c.as_slice-modules.result.now (place_in c.in_ok-places.places) =
    record { same = c.as_slice-modules.ensures; places = c.in_ok-places.ensures.places; accepted = c.in_ok-places.ensures.accepted } in
    names_differ c.args.design.now c.args.top.now c.as_slice-modules.result.now (place_in c.in_ok-places.places) named

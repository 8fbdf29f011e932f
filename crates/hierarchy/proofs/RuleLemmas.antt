-- The rules on modules, one after the other.
use Rattle.std.proofs.Common.{◌≡◌, ℕ, ◌<◌, List, [], ◌∷◌, length, refl, sym, ◌∙◌, ap, subst, cond, Option, None, Some, is_some, Result, Ok, Err, IfErr, IfSome, option_and_then, slice_get}
use Rattle.std.specs.Result.{IsErr, IsErrAnd}
use Rattle.std.specs.Option.{option_map, option_or}
use Rattle.vlog_tree.specs.declared.design.Design.{Design}
use Rattle.vlog_tree.specs.declared.design.Module.{Module}
use Rattle.vlog_tree.specs.Meaning.Instances.{module_named}
use Rattle.vlog_tree.specs.Meaning.Uses.{Text}
use Rattle.hierarchy.specs.Reach.{reaches}
use Rattle.hierarchy.specs.Failures.{Failure, earliest, failure, first_refusal}
use Rattle.hierarchy.specs.Graph.{AreDistinct, Rooted, bad_items_from, name_at, place_among, rooted_at, walks_to}
use Rattle.hierarchy.specs.Indexed.{IsIndexed}
use Rattle.hierarchy.specs.Rules.{bad_instances, missing_top, module_rules, repeated_after}
use Rattle.hierarchy.proofs.DesignLemmas.{bad_instances_are, found_at, name_is, place_within, reaches_walks}
use Rattle.hierarchy.proofs.PlaceLemmas.{is_some-place, none_repeated}

or_none : {X : Type 0} (o : Option X) → option_or o None ≡ o
or_none None = refl
or_none (Some x) = refl

-- what a fault that is passed on as it is says
pub err_from : {X E : Type 0} (r : Result X E) (e : E) (P : E → Type 0) → IsErr r × IsErrAnd r (λ f. f ≡ e) → P e → IfErr r P
err_from (Ok x) e P h told = tt
err_from (Err f) e P h told = subst P (sym h.1) told

module _ (design : Design) (top : Text) (accepted : earliest (repeated_after [] design.modules) ≡ None) where
  second_on : first_refusal (module_rules design top) ≡ option_or (option_map (λ f. (2, f)) (earliest (missing_top design top))) (option_or (option_map (λ f. (3, f)) (earliest (bad_instances design top))) None)
  second_on =
      ap (λ o. option_or (option_map (λ f. (1, f)) o) (option_or (option_map (λ f. (2, f)) (earliest (missing_top design top))) (option_or (option_map (λ f. (3, f)) (earliest (bad_instances design top))) None))) accepted

  no_top : place_among design.modules top ≡ None → first_refusal (module_rules design top) ≡ Some (2, failure 0 [] top)
  no_top none =
      second_on
      ∙ ap (λ b. option_or (option_map (λ f. (2, f)) (earliest (cond b [] (failure 0 [] top ∷ [])))) (option_or (option_map (λ f. (3, f)) (earliest (bad_instances design top))) None))
      (is_some-place design.modules top ∙ ap is_some none)

  with_top : (place : ℕ) → place_among design.modules top ≡ Some place → first_refusal (module_rules design top) ≡ option_map (λ f. (3, f)) (earliest (bad_items_from (rooted_at design.modules place) (place_among design.modules) 0 design.modules))
  with_top place found =
      second_on
      ∙ ap (λ b. option_or (option_map (λ f. (2, f)) (earliest (cond b [] (failure 0 [] top ∷ [])))) (option_or (option_map (λ f. (3, f)) (earliest (bad_instances design top))) None))
      (is_some-place design.modules top ∙ ap is_some found)
      ∙ or_none (option_map (λ f. (3, f)) (earliest (bad_instances design top)))
      ∙ ap (λ name. option_map (λ f. (3, f)) (earliest (bad_instances design name))) (sym (name_is design.modules top place found))
      ∙ ap (λ failures. option_map (λ f. (3, f)) (earliest failures))
      (bad_instances_are design (none_repeated design.modules accepted) place (place_within design.modules top place found))

-- what a call knows of the modules once their names are distinct, where it has them by another name
pub record IsNamed (design : Design) (modules : List Module) (place_of : Text → Option ℕ) : Type 0 where
  pub same : modules ≡ design.modules
  pub places : place_of ≡ place_among modules
  pub accepted : earliest (repeated_after [] modules) ≡ None

module _ (design : Design) (top : Text) (modules : List Module) (place_of : Text → Option ℕ) (named : IsNamed design modules place_of) where
  accepted_here : earliest (repeated_after [] design.modules) ≡ None
  accepted_here = subst (λ ms. earliest (repeated_after [] ms) ≡ None) named.same named.accepted

  places_here : place_of ≡ place_among design.modules
  places_here = named.places ∙ ap place_among named.same

  place_here : (o : Option ℕ) → place_of top ≡ o → place_among design.modules top ≡ o
  place_here o e = sym (ap (λ f. f top) places_here) ∙ e

  pub refused_top : (refusal : Option (ℕ × Failure)) → place_of top ≡ None → Some (2, failure 0 [] top) ≡ refusal → first_refusal (module_rules design top) ≡ refusal
  refused_top refusal none e = no_top design top accepted_here (place_here None none) ∙ e

  pub top_below : (place : ℕ) → place_of top ≡ Some place → place < length modules
  top_below place found = subst (λ ms. place < length ms) (sym named.same) (place_within design.modules top place (place_here (Some place) found))

  pub refused_third : (place : ℕ) → place_of top ≡ Some place → first_refusal (module_rules design top) ≡ option_map (λ f. (3, f)) (earliest (bad_items_from (rooted_at modules place) (place_among modules) 0 modules))
  refused_third place found =
      with_top design top accepted_here place (place_here (Some place) found)
      ∙ ap (λ ms. option_map (λ f. (3, f)) (earliest (bad_items_from (rooted_at ms place) (place_among ms) 0 ms))) (sym named.same)

  pub top_name : (place : ℕ) → place_of top ≡ Some place → name_at design.modules place ≡ top
  top_name place found = name_is design.modules top place (place_here (Some place) found)

  pub names_differ : AreDistinct design.modules
  names_differ = none_repeated design.modules accepted_here

  pub indexed : (place : ℕ) → place_of top ≡ Some place → (rooted : Rooted) → rooted ≡ rooted_at modules place → IsIndexed design.modules place place_of rooted
  indexed place found rooted is = record {
    distinct = none_repeated design.modules accepted_here;
    places = places_here;
    is_rooted = is ∙ ap (λ ms. rooted_at ms place) named.same;
    within = place_within design.modules top place (place_here (Some place) found);
  }

some_below : {P : ℕ → Type 0} (o : Option ℕ) → ((place : ℕ) → o ≡ Some place → P place) → IfSome o P
some_below None told = tt
some_below (Some place) told = told place refl

-- ---- what is kept of the modules tells what callers ask

module _ (design : Design) (top : ℕ) (place_of : Text → Option ℕ) (rooted : Rooted) (known : IsIndexed design.modules top place_of rooted) where
  pub top_place_is : place_among design.modules (name_at design.modules top) ≡ Some top
  top_place_is = known.distinct top known.within

  pub top_module_is : slice_get design.modules top ≡ module_named design (name_at design.modules top)
  top_module_is = sym (ap (option_and_then (slice_get design.modules)) top_place_is) ∙ found_at design.modules (name_at design.modules top)

  pub place_is : (name : Text) → place_of name ≡ place_among design.modules name
  place_is name = ap (λ f. f name) known.places

  pub module_is : (name : Text) → option_and_then (slice_get design.modules) (place_of name) ≡ module_named design name
  module_is name = ap (option_and_then (slice_get design.modules)) (place_is name) ∙ found_at design.modules name

  pub place_below : (name : Text) → IfSome (place_of name) (λ place. place < length design.modules)
  place_below name = some_below (place_of name) (λ place e. place_within design.modules name place (sym (place_is name) ∙ e))

  pub reached_is : (place : ℕ) → place < length design.modules → walks_to rooted.graph rooted.top place ≡ reaches design (name_at design.modules top) (name_at design.modules place)
  reached_is place h = ap (λ r. walks_to r.graph r.top place) known.is_rooted ∙ sym (reaches_walks design known.distinct top place known.within h)

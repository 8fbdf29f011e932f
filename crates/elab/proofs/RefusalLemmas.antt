-- Rules one after the other.
use Rattle.std.proofs.Common.{◌≡◌, ◌⊎◌, inl, inr, ℕ, List, [], ◌∷◌, ◌++◌, Option, None, Some, Result, Ok, Err, ap, refl, subst, sym, ◌∙◌}
use Rattle.std.specs.Option.{IsSomeAnd, option_map, option_or}
use Rattle.std.specs.Result.{IfErr, IsErrAnd}
use Rattle.hierarchy.specs.Failures.{Failure, earliest, first_refusal}
use Rattle.hierarchy.specs.Faults.{refusal_of}
use Rattle.hierarchy.specs.Shown.{shown}
use Rattle.hierarchy.specs.declared.fault.HierarchyFault.{HierarchyFault}
use Rattle.hierarchy.specs.declared.fault.HierarchyFault.TheVariants as hierarchy
use Rattle.elab.specs.Refusals.{Refuses, Says, refuses_at}
use Rattle.elab.specs.declared.fault.ElabFault.{ElabFault}
use Rattle.elab.specs.declared.fault.ElabFault.TheVariants as fault

or_assoc : {X : Type 0} (a b c : Option X) → option_or (option_or a b) c ≡ option_or a (option_or b c)
or_assoc (Some a) b c = refl
or_assoc None b c = refl

-- Of two lists of rules the first that fails is the first of the former, if one of those fails.
pub first_of_both : (rules others : List (ℕ × List Failure)) → first_refusal (rules ++ others) ≡ option_or (first_refusal rules) (first_refusal others)
first_of_both [] others = refl
first_of_both (rule ∷ rules) others =
    ap (option_or (option_map (λ failure. (rule.0, failure)) (earliest rule.1))) (first_of_both rules others)
    ∙ sym (or_assoc (option_map (λ failure. (rule.0, failure)) (earliest rule.1)) (first_refusal rules) (first_refusal others))

-- Where no rule of the former fails, the first is that of the latter.
pub first_of_others : (rules others : List (ℕ × List Failure)) (found : Option (ℕ × Failure)) → first_refusal rules ≡ None
    → first_refusal others ≡ found → first_refusal (rules ++ others) ≡ found
first_of_others rules others found none is = first_of_both rules others ∙ ap (λ first. option_or first (first_refusal others)) none ∙ is

module _ (rules others : List (ℕ × List Failure)) (result : ElabFault) where
  refused_at : (refused : ℕ × Failure) → first_refusal rules ≡ Some refused → Says result refused → Refuses (rules ++ others) result
  refused_at refused is says = inr (refused, first_of_both rules others ∙ ap (λ first. option_or first (first_refusal others)) is, says)

  -- What the hierarchy refuses, the rules refuse.
  pub refused_by : (why : HierarchyFault) → (why ≡ hierarchy.Memory) ⊎ (first_refusal rules ≡ refusal_of why)
      → (result ≡ fault.Memory) ⊎ IsSomeAnd (refusal_of why) (Says result) → Refuses (rules ++ others) result
  refused_by why first (inl memory) = inl memory
  refused_by (hierarchy.RepeatedModule failure) (inl memory) (inr says) = absurd cc
  refused_by (hierarchy.NoTop failure) (inl memory) (inr says) = absurd cc
  refused_by (hierarchy.BadInstance failure) (inl memory) (inr says) = absurd cc
  refused_by hierarchy.Memory first (inr says) = absurd says
  refused_by (hierarchy.RepeatedModule failure) (inr is) (inr says) = refused_at (1, shown failure) is says
  refused_by (hierarchy.NoTop failure) (inr is) (inr says) = refused_at (2, shown failure) is says
  refused_by (hierarchy.BadInstance failure) (inr is) (inr says) = refused_at (3, shown failure) is says

  -- What refuses before other rules.
  pub refused_before : Refuses rules result → Refuses (rules ++ others) result
  refused_before (inl memory) = inl memory
  refused_before (inr (refused, is, says)) = refused_at refused is says

  -- What refuses behind rules that are kept.
  pub refused_later : first_refusal rules ≡ None → Refuses others result → Refuses (rules ++ others) result
  refused_later none (inl memory) = inl memory
  refused_later none (inr (refused, is, says)) = inr (refused, first_of_others rules others (Some refused) none is, says)

-- A rule that fails, before others.
pub refused_first : (rule : ℕ) (failures : List Failure) (rules : List (ℕ × List Failure)) (found : Option Failure) (result : ElabFault)
    → found ≡ earliest failures → refuses_at rule found result → Refuses ((rule, failures) ∷ rules) result
refused_first rule failures rules found result is (inl memory) = inl memory
refused_first rule failures rules found result is (inr (failure, at, says)) =
    inr ((rule, failure), ap (λ first. option_or (option_map (λ failure. (rule, failure)) first) (first_refusal rules)) (sym is ∙ at), says)

-- A rule that is kept, before others.
pub first_behind : (rule : ℕ) (failures : List Failure) (rules : List (ℕ × List Failure)) (found : Option Failure)
    → found ≡ earliest failures → found ≡ None → first_refusal ((rule, failures) ∷ rules) ≡ first_refusal rules
first_behind rule failures rules found is none =
    ap (λ first. option_or (option_map (λ failure. (rule, failure)) first) (first_refusal rules)) (sym is ∙ none)

-- ---- what a step refuses, the whole refuses

pub passed_on : {X : Type 0} (P : ElabFault → Type 0) (result : Result X ElabFault) (why : ElabFault) → IsErrAnd result (λ e. e ≡ why) → P why → IfErr result P
passed_on P (Ok x) why is holds = tt
passed_on P (Err other) why is holds = subst P (sym is) holds

-- by rules that come later
pub refused_behind : {X : Type 0} (rules others : List (ℕ × List Failure)) (result : Result X ElabFault) → first_refusal rules ≡ None → IfErr result (Refuses others) → IfErr result (Refuses (rules ++ others))
refused_behind rules others (Ok x) none refused = tt
refused_behind rules others (Err why) none refused = refused_later rules others why none refused

-- Sets of bits: what is kept when bits are added.
use Rattle.std.specs.Map.{lookup}
use Rattle.std.proofs.Common.{Result, Ok, Err, OnOk, OnErr, if◌then◌else◌, btree_map_len, ℕ, ◌+◌, ◌<◌, ◌≤◌, ◌≡◌, ◌++◌, ◌⊎◌, ◌↔◌, inl, inr, ◌==◌, ◌&&◌, ◌||◌, List, [], ◌∷◌, Bool, true, false, Option, Some, None, is_eq, is_some, max, min, refl, ap, sym, subst, ◌∙◌, arith}
use Rattle.std.proofs.lemmas.Bool.Decides.{leb_tells, nat_tests}
use Rattle.std.proofs.lemmas.Bool.{cases_eq}
use Rattle.std.proofs.lemmas.List.Folds.{list_any-append}
use Rattle.std.specs.List.{list_any}
use Rattle.std.specs.BTreeMap.{BTreeMap, Updates}
use Rattle.driver_rules.specs.declared.run.Run.{Run}
use Rattle.driver_rules.specs.Runs.{AreApart, IsOverlapped, Keeps, Reaches, Touches, kept_at, meets, pair_cmp}

meets_to : (x y : Run) → x.net ≡ y.net → x.first ≤ y.last → y.first ≤ x.last → meets x y ≡ true
meets_to x y same first last = grind (arith, nat_tests)

meets_net : (x y : Run) → meets x y ≡ true → x.net ≡ y.net
meets_net x y h = grind (arith, nat_tests)

meets_first : (x y : Run) → meets x y ≡ true → x.first ≤ y.last
meets_first x y h = grind (arith, nat_tests)

meets_last : (x y : Run) → meets x y ≡ true → y.first ≤ x.last
meets_last x y h = grind (arith, nat_tests)

lt_or_le : (a b : ℕ) → (a < b) ⊎ (b ≤ a)
lt_or_le a b = elim (leb_tells b a) [ inl h ↦ inr h.1 | inr h ↦ inl h.1 ]

same_place : (n m f g : ℕ) → ((n ≡ m) × (f ≡ g)) ⊎ (n ≡ m → f ≡ g → ⊥)
same_place n m f g = elim (cases_eq n m) [ inl e ↦ elim (cases_eq f g) [ inl h ↦ inl (e, h) | inr h ↦ inr (λ _. h) ] | inr e ↦ inr (λ h _. e h) ]

touches_run : (kept : ℕ → ℕ → Option ℕ) (x run : Run) → meets x run ≡ true → kept run.net run.first ≡ Some run.last → Touches kept x
touches_run kept x run h is = record {
  first = run.first;
  last = run.last;
  is = ap (λ n. kept n run.first) (meets_net x run h) ∙ is;
  begins = meets_last x run h;
  ends = meets_first x run h;
}

-- ---- all bits of two runs that meet

-- the run with all bits of two
abbrev pub both : Run → Run → Run
both whole run = record { net = whole.net; first = min whole.first run.first; last = max whole.last run.last }

meets_whole : (x whole run : Run) → meets x whole ≡ true → meets x (both whole run) ≡ true
meets_whole x whole run h =
    let a : x.first ≤ whole.last = meets_first x whole h in
    let b : whole.first ≤ x.last = meets_last x whole h in
    meets_to x (both whole run) (meets_net x whole h) (omega arith) (omega arith)

meets_other : (x whole run : Run) → run.net ≡ whole.net → meets x run ≡ true → meets x (both whole run) ≡ true
meets_other x whole run same h =
    let a : x.first ≤ run.last = meets_first x run h in
    let b : run.first ≤ x.last = meets_last x run h in
    meets_to x (both whole run) (meets_net x run h ∙ same) (omega arith) (omega arith)

meets_one : (x whole run : Run) → x.first ≤ x.last → meets whole run ≡ true → meets x (both whole run) ≡ true → (meets x whole ≡ true) ⊎ (meets x run ≡ true)
meets_one x whole run forward touch h = grind (arith, nat_tests)

-- ---- a run is taken out

pub record IsWithout (kept kept' : ℕ → ℕ → Option ℕ) (run : Run) : Type 0 where
  pub gone : kept' run.net run.first ≡ None
  pub others : (net first : ℕ) → (net ≡ run.net → first ≡ run.first → ⊥) → kept' net first ≡ kept net first

kept_before : (kept kept' : ℕ → ℕ → Option ℕ) (run : Run) → IsWithout kept kept' run → (net first last : ℕ) → kept' net first ≡ Some last → kept net first ≡ Some last
kept_before kept kept' run without net first last is =
    elim (same_place net run.net first run.first) [
      | inl h ↦ absurd (let none : None ≡ Some last = sym (ap (λ n. kept' n first) h.0 ∙ ap (kept' run.net) h.1 ∙ without.gone) ∙ is in cc)
      | inr h ↦ sym (without.others net first h) ∙ is
    ]

pub without_apart : (kept kept' : ℕ → ℕ → Option ℕ) (run : Run) → IsWithout kept kept' run → AreApart kept → AreApart kept'
without_apart kept kept' run without apart = record {
  forward = λ net first last is. apart.forward net first last (kept_before kept kept' run without net first last is);
  apart = λ net first last next end is other.
      apart.apart net first last next end (kept_before kept kept' run without net first last is) (kept_before kept kept' run without net next end other);
}

touches_before : (kept kept' : ℕ → ℕ → Option ℕ) (run x : Run) → IsWithout kept kept' run → Touches kept' x → Touches kept x
touches_before kept kept' run x without t = record {
  first = t.first;
  last = t.last;
  is = kept_before kept kept' run without x.net t.first t.last t.is;
  begins = t.begins;
  ends = t.ends;
}

-- a run that is kept and meets the whole is taken out and joined to it
module _ (kept kept' : ℕ → ℕ → Option ℕ) (whole run : Run) (without : IsWithout kept kept' run) (same : run.net ≡ whole.net)
    (is : kept whole.net run.first ≡ Some run.last) (touch : meets whole run ≡ true) where
  is_kept : kept run.net run.first ≡ Some run.last
  is_kept = ap (λ n. kept n run.first) same ∙ is

  joined_to : (x : Run) → x.first ≤ x.last → Reaches kept' (both whole run) x → Reaches kept whole x
  joined_to x forward (inl t) = inl (touches_before kept kept' run x without t)
  joined_to x forward (inr h) =
      elim (meets_one x whole run forward touch h) [ inl m ↦ inr m | inr m ↦ inl (touches_run kept x run m is_kept) ]

  joined_from : (x : Run) → Reaches kept whole x → Reaches kept' (both whole run) x
  joined_from x (inr h) = inr (meets_whole x whole run h)
  joined_from x (inl t) =
      elim (same_place x.net run.net t.first run.first) [
        | inl h ↦ inr (meets_other x whole run same (meets_to x run h.0
            (let ends : Some t.last ≡ Some run.last = sym t.is ∙ ap (λ n. kept n t.first) h.0 ∙ ap (kept run.net) h.1 ∙ is_kept in
            let l : t.last ≡ run.last = cc in omega (arith, t.ends))
            (omega (arith, t.begins, h.1))))
        | inr h ↦ inl (record { first = t.first; last = t.last; is = without.others x.net t.first h ∙ t.is; begins = t.begins; ends = t.ends })
      ]

-- ---- a run is put in

pub record IsWith (kept kept' : ℕ → ℕ → Option ℕ) (run : Run) : Type 0 where
  pub here : kept' run.net run.first ≡ Some run.last
  pub others : (net first : ℕ) → (net ≡ run.net → first ≡ run.first → ⊥) → kept' net first ≡ kept net first

module _ (kept kept' : ℕ → ℕ → Option ℕ) (whole : Run) (added : IsWith kept kept' whole) (apart : AreApart kept) (free : Touches kept whole → ⊥) (forward : whole.first ≤ whole.last) where
  -- one that is kept is the whole or was kept
  kept_with : (net first last : ℕ) → kept' net first ≡ Some last → ((net ≡ whole.net) × (first ≡ whole.first) × (last ≡ whole.last)) ⊎ (kept net first ≡ Some last)
  kept_with net first last is =
      elim (same_place net whole.net first whole.first) [
        | inl h ↦ inl (
          h.0,
          h.1,
          let ends : Some last ≡ Some whole.last = sym is ∙ ap (λ n. kept' n first) h.0 ∙ ap (kept' whole.net) h.1 ∙ added.here in cc,
        )
        | inr h ↦ inr (sym (added.others net first h) ∙ is)
      ]

  free_at : (net first last : ℕ) → net ≡ whole.net → kept net first ≡ Some last → first ≤ whole.last → whole.first ≤ last → ⊥
  free_at net first last same is begins ends =
      free (record { first = first; last = last; is = ap (λ n. kept n first) (sym same) ∙ is; begins = begins; ends = ends })

  apart_with : (net first last next end : ℕ) → first < next
      → ((net ≡ whole.net) × (first ≡ whole.first) × (last ≡ whole.last)) ⊎ (kept net first ≡ Some last)
      → ((net ≡ whole.net) × (next ≡ whole.first) × (end ≡ whole.last)) ⊎ (kept net next ≡ Some end)
      → last < next
  apart_with net first last next end below (inl h) (inl g) = absurd (omega (arith, h.1, g.1))
  apart_with net first last next end below (inl h) (inr g) =
      elim (lt_or_le last next) [
        | inl less ↦ less
        | inr more ↦ absurd (free_at net next end h.0 g (omega (arith, h.2)) (let k : next ≤ end = apart.forward net next end g in omega (arith, h.1)))
      ]
  apart_with net first last next end below (inr h) (inl g) =
      elim (lt_or_le last next) [
        | inl less ↦ less
        | inr more ↦ absurd (free_at net first last g.0 h (omega (arith, g.1)) (omega (arith, g.1)))
      ]
  apart_with net first last next end below (inr h) (inr g) = apart.apart net first last next end h g below

  forward_with : (net first last : ℕ) → ((net ≡ whole.net) × (first ≡ whole.first) × (last ≡ whole.last)) ⊎ (kept net first ≡ Some last) → first ≤ last
  forward_with net first last (inl h) = omega (arith, h.1, h.2)
  forward_with net first last (inr h) = apart.forward net first last h

  pub with_apart : AreApart kept'
  with_apart = record {
    forward = λ net first last is. forward_with net first last (kept_with net first last is);
    apart = λ net first last next end is other below. apart_with net first last next end below (kept_with net first last is) (kept_with net next end other);
  }

  with_to : (x : Run) → Touches kept' x → Reaches kept whole x
  with_to x t =
      elim (kept_with x.net t.first t.last t.is) [
        | inl h ↦ inr (meets_to x whole h.0 (omega (arith, t.ends, h.2)) (omega (arith, t.begins, h.1)))
        | inr h ↦ inl (record { first = t.first; last = t.last; is = h; begins = t.begins; ends = t.ends })
      ]

  with_from : (x : Run) → Reaches kept whole x → Touches kept' x
  with_from x (inr h) = touches_run kept' x whole h added.here
  with_from x (inl t) =
      elim (same_place x.net whole.net t.first whole.first) [
        | inl h ↦ absurd (free_at x.net t.first t.last h.0 t.is (omega (arith, h.1)) (let k : t.first ≤ t.last = apart.forward x.net t.first t.last t.is in omega (arith, h.1)))
        | inr h ↦ record { first = t.first; last = t.last; is = added.others x.net t.first h ∙ t.is; begins = t.begins; ends = t.ends }
      ]

-- ---- what a map keeps

key_is : (net first other next : ℕ) → is_eq (pair_cmp (net, first) (other, next)) ≡ ((net == other) && (first == next))
key_is net first other next = grind (arith, nat_tests)

not_key : (run : Run) (net first : ℕ) → (net ≡ run.net → first ≡ run.first → ⊥) → is_eq (pair_cmp (run.net, run.first) (net, first)) ≡ false
not_key run net first other = by (is_eq (pair_cmp (run.net, run.first) (net, first))) refl
  where
    by : (b : Bool) → is_eq (pair_cmp (run.net, run.first) (net, first)) ≡ b → b ≡ false
    by false is = refl
    by true is =
        let h : ((run.net == net) && (run.first == first)) ≡ true = sym (key_is run.net run.first net first) ∙ is in
        let e : net ≡ run.net = grind (arith, nat_tests) in
        let f : first ≡ run.first = grind (arith, nat_tests) in
        absurd (other e f)

module _ (runs after : BTreeMap (ℕ × ℕ) ℕ) (run : Run) where
  pub is_without : Updates pair_cmp runs after (run.net, run.first) None → IsWithout (kept_at runs) (kept_at after) run
  is_without updates = record {
    gone = updates.1;
    others = λ net first other. updates.2 (net, first) (not_key run net first other);
  }

  pub is_with : Updates pair_cmp runs after (run.net, run.first) (Some run.last) → IsWith (kept_at runs) (kept_at after) run
  is_with updates = record {
    here = updates.1;
    others = λ net first other. updates.2 (net, first) (not_key run net first other);
  }

-- ---- adding bits

pub overlapped_joined : (kept kept' : ℕ → ℕ → Option ℕ) (whole run wider : Run) → IsWithout kept kept' run → IsOverlapped kept whole (Some run)
    → wider ≡ both whole run → (x : Run) → x.first ≤ x.last → Reaches kept' wider x ↔ Reaches kept whole x
overlapped_joined kept kept' whole run wider without found is x forward = (
  λ h. joined_to kept kept' whole run without found.0 found.1 found.2 x forward (subst (λ w. Reaches kept' w x) is h),
  λ h. subst (λ w. Reaches kept' w x) (sym is) (joined_from kept kept' whole run without found.0 found.1 found.2 x h),
)

pub then_same : {A B C : Type 0} → A ↔ B → B ↔ C → A ↔ C
then_same h g = (λ a. g.0 (h.0 a), λ c. h.1 (g.1 c))

or_more : (a b : Bool) → (a ≡ true) ⊎ (b ≡ true) → (a || (b || false)) ≡ true
or_more true b h = refl
or_more false true h = refl
or_more false false (inl h) = h
or_more false false (inr h) = h

or_one : (a b : Bool) → (a || (b || false)) ≡ true → (a ≡ true) ⊎ (b ≡ true)
or_one true b h = inl refl
or_one false true h = inr refl
or_one false false h = inl h

pub added : (kept before kept' : ℕ → ℕ → Option ℕ) (bits whole : Run) → ((x : Run) → x.first ≤ x.last → Reaches kept whole x ↔ Reaches before bits x)
    → IsWith kept kept' whole → AreApart kept → (Touches kept whole → ⊥) → whole.first ≤ whole.last
    → (all : List Run) → Keeps before all → Keeps kept' (all ++ bits ∷ [])
added kept before kept' bits whole same put apart free forward all keeps x x_forward =
    let any : list_any (meets x) (all ++ bits ∷ []) ≡ (list_any (meets x) all || (meets x bits || false)) = list_any-append (meets x) all (bits ∷ []) in (
      λ t. any ∙ or_more (list_any (meets x) all) (meets x bits)
          (elim ((same x x_forward).0 (with_to kept kept' whole put apart free forward x t)) [ inl k ↦ inl ((keeps x x_forward).0 k) | inr k ↦ inr k ]),
      λ h. with_from kept kept' whole put apart free forward x ((same x x_forward).1
          (elim (or_one (list_any (meets x) all) (meets x bits) (sym any ∙ h)) [ inl k ↦ inl ((keeps x x_forward).1 k) | inr k ↦ inr k ])),
    )

pub forward_both : (whole run wider : Run) → wider ≡ both whole run → whole.first ≤ whole.last → wider.first ≤ wider.last
forward_both whole run wider is h =
    subst (λ (w : Run). w.first ≤ w.last) (sym is)
    (let k : min whole.first run.first ≤ max whole.last run.last = omega arith in k)

pub fewer : (runs after : BTreeMap (ℕ × ℕ) ℕ) (whole run : Run) (removed : Option ℕ) → removed ≡ kept_at runs run.net run.first
    → btree_map_len after + (if is_some removed then 1 else 0) ≡ btree_map_len runs → IsOverlapped (kept_at runs) whole (Some run)
    → btree_map_len after < btree_map_len runs
fewer runs after whole run removed is len found =
    let some : removed ≡ Some run.last = is ∙ ap (λ n. kept_at runs n run.first) found.0 ∙ found.1 in
    let one : btree_map_len after + 1 ≡ btree_map_len runs = sym (ap (λ o. btree_map_len after + (if is_some o then 1 else 0)) some) ∙ len in
    omega arith

-- whether or not there was memory for it
pub put_apart : {E : Type 0} (runs after : BTreeMap (ℕ × ℕ) ℕ) (whole : Run) (outcome : Result (Option ℕ) E)
    → OnOk outcome (Updates pair_cmp runs after (whole.net, whole.first) (Some whole.last)) → OnErr outcome (after.entries ≡ runs.entries)
    → AreApart (kept_at runs) → (Touches (kept_at runs) whole → ⊥) → whole.first ≤ whole.last → AreApart (kept_at after)
put_apart runs after whole (Ok old) put same apart free forward = with_apart (kept_at runs) (kept_at after) whole (is_with runs after whole put) apart free forward
put_apart runs after whole (Err error) put same apart free forward =
    subst (λ (entries : List ((ℕ × ℕ) × ℕ)). AreApart (λ net first. lookup (λ key. is_eq (pair_cmp (net, first) key)) entries)) (sym same) apart

-- Ways over names are ways over their numbers, and ways back are ways over turned steps.
use Rattle.std.proofs.Common.{◌≡◌, ℕ, zero, suc, ◌+◌, All, Bool, true, ◌||◌, ◌&&◌, List, [], ◌∷◌, map, refl, sym, ◌∙◌, ap, nat_eq, ◌<◌, Option, Some, None, is_some}
use Rattle.std.specs.List.{cons_option, filter_map, list_any, range_with_len}
use Rattle.std.proofs.lemmas.Bool.{eqb-true, eq-eqb, false≢true}
use Rattle.std.proofs.lemmas.List.Elements.{All-cons, All-head, All-map, All-nil, All-tail, All-weaker}
use Rattle.hierarchy.proofs.MarkLemmas.{same_test}
use Rattle.clock_sets.specs.declared.steps.Step.{Step}
use Rattle.clock_sets.specs.Passing.{Pass, Signal, leads, same_signal}
use Rattle.clock_sets.specs.Steps.{IsBelow, goes, goes_to, joined, step, step_of, turned}
use Rattle.clock_sets.proofs.AnyLemmas.{and_and, and_swap, any_and, any_map, any_same, any_swap}

-- ---- the last step first

pub goes_last : (steps : List Step) (n from to : ℕ) → goes steps (suc n) from to ≡ list_any (λ one. goes steps n from one.from && nat_eq one.to to) steps
goes_last steps zero from to = refl
goes_last steps (suc n) from to =
    any_same (λ one. nat_eq from one.from && goes steps (suc n) one.to to)
    (λ one. list_any (λ two. nat_eq from one.from && (goes steps n one.to two.from && nat_eq two.to to)) steps) steps
    (λ one.
    ap (λ b. nat_eq from one.from && b) (goes_last steps n one.to to)
    ∙ any_and (nat_eq from one.from) (λ two. goes steps n one.to two.from && nat_eq two.to to) steps)
    ∙ any_swap (λ one two. nat_eq from one.from && (goes steps n one.to two.from && nat_eq two.to to)) steps steps
    ∙ any_same (λ two. list_any (λ one. nat_eq from one.from && (goes steps n one.to two.from && nat_eq two.to to)) steps)
    (λ two. goes steps (suc n) from two.from && nat_eq two.to to) steps
    (λ two.
    any_same (λ one. nat_eq from one.from && (goes steps n one.to two.from && nat_eq two.to to))
    (λ one. nat_eq two.to to && (nat_eq from one.from && goes steps n one.to two.from)) steps
    (λ one. and_and (nat_eq from one.from) (goes steps n one.to two.from) (nat_eq two.to to))
    ∙ sym (any_and (nat_eq two.to to) (λ one. nat_eq from one.from && goes steps n one.to two.from) steps)
    ∙ and_swap (nat_eq two.to to) (goes steps (suc n) from two.from))

nat_eq_swap : (a b : ℕ) → nat_eq a b ≡ nat_eq b a
nat_eq_swap a b = same_test (nat_eq a b) (nat_eq b a) (λ e. eq-eqb b a (sym (eqb-true a b e))) (λ e. eq-eqb a b (sym (eqb-true b a e)))

goes_turned : (steps : List Step) (n from to : ℕ) → goes (map turned steps) n from to ≡ goes steps n to from
goes_turned steps zero from to = nat_eq_swap from to
goes_turned steps (suc n) from to =
    any_map (λ one. nat_eq from one.from && goes (map turned steps) n one.to to) turned steps
    ∙ any_same (λ one. nat_eq from one.to && goes (map turned steps) n one.from to) (λ one. goes steps n to one.from && nat_eq one.to from) steps
    (λ one.
    ap (λ b. nat_eq from one.to && b) (goes_turned steps n one.from to)
    ∙ and_swap (nat_eq from one.to) (goes steps n to one.from)
    ∙ ap (λ b. goes steps n to one.from && b) (nat_eq_swap from one.to))
    ∙ sym (goes_last steps n to from)

pub goes_back : (steps : List Step) (count from to : ℕ) → goes_to (map turned steps) count from to ≡ goes_to steps count to from
goes_back steps count from to =
    any_same (λ n. goes (map turned steps) n from to) (λ n. goes steps n to from) (range_with_len 0 (count + 1)) (λ n. goes_turned steps n from to)

-- ---- names and numbers

-- Both names of a pass have numbers.
pub record HasEnds (number : Signal → Option ℕ) (one : Pass) : Type 0 where
  pub from_some : is_some (number one.from) ≡ true
  pub to_some : is_some (number one.to) ≡ true

module _ (number : Signal → Option ℕ) (same_is : (one other : Signal) (a b : ℕ) → number one ≡ Some a → number other ≡ Some b → same_signal one other ≡ nat_eq a b) where
  any_step : (from : Signal) (a : ℕ) (f : Signal → Bool) (g : ℕ → Bool) → number from ≡ Some a → ((to : Signal) (b : ℕ) → number to ≡ Some b → f to ≡ g b) → (ps : List Pass) → All (HasEnds number) ps
      → list_any (λ p. same_signal from p.from && f p.to) ps ≡ list_any (λ one. nat_eq a one.from && g one.to) (filter_map (step_of number) ps)
  any_step from a f g at same [] ends = refl
  any_step from a f g at same (p ∷ ps) ends =
      let here = All-head (HasEnds number) p ps ends in
      by (number p.from) (number p.to) refl refl here.from_some here.to_some (any_step from a f g at same ps (All-tail (HasEnds number) p ps ends))
    where
      by : (o q : Option ℕ) → number p.from ≡ o → number p.to ≡ q → is_some o ≡ true → is_some q ≡ true
          → list_any (λ r. same_signal from r.from && f r.to) ps ≡ list_any (λ one. nat_eq a one.from && g one.to) (filter_map (step_of number) ps)
          → ((same_signal from p.from && f p.to) || list_any (λ r. same_signal from r.from && f r.to) ps)
          ≡ list_any (λ one. nat_eq a one.from && g one.to) (cons_option (joined o q) (filter_map (step_of number) ps))
      by (Some x) (Some y) first second has_first has_second rest =
          ap (λ b. (b && f p.to) || list_any (λ r. same_signal from r.from && f r.to) ps) (same_is from p.from a x at first)
          ∙ ap (λ b. (nat_eq a x && b) || list_any (λ r. same_signal from r.from && f r.to) ps) (same p.to y second)
          ∙ ap (λ b. (nat_eq a x && g y) || b) rest
      by None q first second has_first has_second rest = absurd (false≢true has_first)
      by (Some x) None first second has_first has_second rest = absurd (false≢true has_second)

  pub leads_goes : (ps : List Pass) → All (HasEnds number) ps → (n : ℕ) (from to : Signal) (a b : ℕ) → number from ≡ Some a → number to ≡ Some b → leads ps n from to ≡ goes (filter_map (step_of number) ps) n a b
  leads_goes ps ends zero from to a b at there = same_is from to a b at there
  leads_goes ps ends (suc n) from to a b at there =
      any_step from a (λ next. leads ps n next to) (λ next. goes (filter_map (step_of number) ps) n next b) at
      (λ next c e. leads_goes ps ends n next to c b e there) ps ends

pub all_below : (number : Signal → Option ℕ) (count : ℕ) → ((one : Signal) (n : ℕ) → number one ≡ Some n → n < count) → (xs : List Signal) → All (λ n. n < count) (filter_map number xs)
all_below number count below [] = All-nil (λ n. n < count)
all_below number count below (x ∷ xs) = by (number x) refl (all_below number count below xs)
  where
    by : (o : Option ℕ) → number x ≡ o → All (λ n. n < count) (filter_map number xs) → All (λ n. n < count) (cons_option o (filter_map number xs))
    by None is rest = rest
    by (Some n) is rest = All-cons (λ k. k < count) n (filter_map number xs) (below x n is) rest

pub steps_below : (number : Signal → Option ℕ) (count : ℕ) → ((one : Signal) (n : ℕ) → number one ≡ Some n → n < count) → (ps : List Pass) → All (IsBelow count) (filter_map (step_of number) ps)
steps_below number count below [] = All-nil (IsBelow count)
steps_below number count below (p ∷ ps) = by (number p.from) (number p.to) refl refl (steps_below number count below ps)
  where
    by : (o q : Option ℕ) → number p.from ≡ o → number p.to ≡ q → All (IsBelow count) (filter_map (step_of number) ps) → All (IsBelow count) (cons_option (joined o q) (filter_map (step_of number) ps))
    by None q first second rest = rest
    by (Some x) None first second rest = rest
    by (Some x) (Some y) first second rest =
        All-cons (IsBelow count) (step x y) (filter_map (step_of number) ps) (record { from_below = below p.from x first; to_below = below p.to y second }) rest

pub turned_below : (count : ℕ) (steps : List Step) → All (IsBelow count) steps → All (IsBelow count) (map turned steps)
turned_below count steps below =
    All-map (IsBelow count) turned steps
    (All-weaker (IsBelow count) (λ one. IsBelow count (turned one)) (λ one h. record { from_below = h.to_below; to_below = h.from_below }) steps below)

-- Marks on the numbers to which steps lead are the sets of names.
use Rattle.std.proofs.Common.{◌≡◌, ℕ, ◌+◌, ◌<◌, All, Bool, true, false, ◌||◌, ◌&&◌, List, [], ◌∷◌, length, map, refl, sym, ◌∙◌, ap, subst, Option, Some, None, is_some}
use Rattle.std.specs.List.{cons_option, filter_map, list_any, range_with_len}
use Rattle.std.specs.Option.{option_to_list}
use Rattle.std.proofs.lemmas.List.Elements.{All-weaker}
use Rattle.vlog_tree.specs.declared.design.Design.{Design}
use Rattle.vlog_tree.specs.Meaning.Uses.{Text}
use Rattle.hierarchy.specs.Graph.{is_marked}
use Rattle.clock_sets.specs.declared.steps.Step.{Step}
use Rattle.clock_sets.specs.Numbers.{number_of}
use Rattle.clock_sets.specs.Passing.{Signal, is_signal, leads, passes, passes_on, signal, signals}
use Rattle.clock_sets.specs.Sets.{edges, is_clock_use}
use Rattle.clock_sets.specs.Steps.{IsBelow, goes, goes_to, has_mark, step_of, turned}
use Rattle.clock_sets.proofs.AnyLemmas.{any_same}
use Rattle.clock_sets.proofs.NumberLemmas.{has_number, number_below, same_number}
use Rattle.clock_sets.proofs.PassLemmas.{IsKnown, passes_known}
use Rattle.clock_sets.proofs.WayLemmas.{HasEnds, all_below, goes_back, leads_goes, steps_below, turned_below}

or_no : (b : Bool) → (b || false) ≡ b
or_no true = refl
or_no false = refl

and_no : (b : Bool) → (b && false) ≡ false
and_no true = refl
and_no false = refl

-- tests of the numbers that names have, where a name that has none fails
any_numbered : (number : Signal → Option ℕ) (f : ℕ → Bool) (g : Signal → Bool) → ((one : Signal) (n : ℕ) → number one ≡ Some n → f n ≡ g one) → ((one : Signal) → number one ≡ None → g one ≡ false) → (xs : List Signal) → list_any f (filter_map number xs) ≡ list_any g xs
any_numbered number f g same none [] = refl
any_numbered number f g same none (x ∷ xs) = by (number x) refl (any_numbered number f g same none xs)
  where
    by : (o : Option ℕ) → number x ≡ o → list_any f (filter_map number xs) ≡ list_any g xs → list_any f (cons_option o (filter_map number xs)) ≡ (g x || list_any g xs)
    by None is rest = rest ∙ sym (ap (λ b. b || list_any g xs) (none x is))
    by (Some n) is rest = ap (λ b. b || list_any f (filter_map number xs)) (same x n is) ∙ ap (λ b. g x || b) rest

any_fails : {X : Type 0} (f : X → Bool) (xs : List X) → ((x : X) → f x ≡ false) → list_any f xs ≡ false
any_fails f [] fails = refl
any_fails f (x ∷ xs) fails = ap (λ b. b || list_any f xs) (fails x) ∙ any_fails f xs fails

pub start_of : (number : Signal → Option ℕ) (one : Signal) → option_to_list (number one) ≡ filter_map number (one ∷ [])
start_of number one = by (number one)
  where
    by : (o : Option ℕ) → option_to_list o ≡ cons_option o []
    by None = refl
    by (Some n) = refl

module _ (design : Design) (top : Text) where
  abbrev number : Signal → Option ℕ
  number = number_of design.modules

  abbrev count : ℕ
  count = length (signals design.modules)

  abbrev pub steps_in : List Step
  steps_in = filter_map (step_of number) (passes design top)

  number_within : (one : Signal) (n : ℕ) → number one ≡ Some n → n < count
  number_within = number_below design.modules

  pub steps_within : All (IsBelow count) steps_in
  steps_within = steps_below number count number_within (passes design top)

  pub turned_within : All (IsBelow count) (map turned steps_in)
  turned_within = turned_below count steps_in steps_within

  pub numbers_within : (xs : List Signal) → All (λ n. n < count) (filter_map number xs)
  numbers_within = all_below number count number_within

  ends : All (HasEnds number) (passes design top)
  ends =
      All-weaker (IsKnown design.modules) (HasEnds number)
      (λ p h. record {
        from_some = sym (has_number design.modules p.from) ∙ h.from_known;
        to_some = sym (has_number design.modules p.to) ∙ h.to_known;
      }) (passes design top) (passes_known design top)

  some_signal : (one : Signal) (n : ℕ) → number one ≡ Some n → is_signal design one ≡ true
  some_signal one n e = has_number design.modules one ∙ ap is_some e

  no_signal : (one : Signal) → number one ≡ None → is_signal design one ≡ false
  no_signal one e = has_number design.modules one ∙ ap is_some e

  passes_numbered : (from to : Signal) (a b : ℕ) → number from ≡ Some a → number to ≡ Some b → passes_on design top from to ≡ goes_to steps_in count a b
  passes_numbered from to a b at there =
      ap (λ c. (c && is_signal design to) && list_any (λ n. leads (passes design top) n from to) (range_with_len 0 (count + 1))) (some_signal from a at)
      ∙ ap (λ c. c && list_any (λ n. leads (passes design top) n from to) (range_with_len 0 (count + 1))) (some_signal to b there)
      ∙ any_same (λ n. leads (passes design top) n from to) (λ n. goes steps_in n a b) (range_with_len 0 (count + 1))
      (λ n. leads_goes number (same_number design.modules) (passes design top) ends n from to a b at there)

  none_passes : (from to : Signal) → number from ≡ None → passes_on design top from to ≡ false
  none_passes from to e = ap (λ c. (c && is_signal design to) && list_any (λ n. leads (passes design top) n from to) (range_with_len 0 (count + 1))) (no_signal from e)

  passes_to_none : (from to : Signal) → number to ≡ None → passes_on design top from to ≡ false
  passes_to_none from to e =
      ap (λ c. (is_signal design from && c) && list_any (λ n. leads (passes design top) n from to) (range_with_len 0 (count + 1))) (no_signal to e)
      ∙ ap (λ c. c && list_any (λ n. leads (passes design top) n from to) (range_with_len 0 (count + 1))) (and_no (is_signal design from))

  -- Turned steps lead from the names after `posedge` to the names that are used as clocks.
  pub uses_marked : (marks : List Bool) → ((n : ℕ) → n < count → is_marked marks n ≡ list_any (λ start. goes_to (map turned steps_in) count start n) (filter_map number (edges design top))) → (one : Signal) → has_mark marks (number one) ≡ is_clock_use design top one
  uses_marked marks marked one = by (number one) refl
    where
      by : (o : Option ℕ) → number one ≡ o → has_mark marks o ≡ is_clock_use design top one
      by None is = sym (any_fails (passes_on design top one) (edges design top) (λ edge. none_passes one edge is))
      by (Some n) is =
          marked n (number_within one n is)
          ∙ any_numbered number (λ start. goes_to (map turned steps_in) count start n) (passes_on design top one)
          (λ edge start there. goes_back steps_in count start n ∙ sym (passes_numbered one edge n start is there))
          (λ edge e. passes_to_none one edge e) (edges design top)

  -- Steps lead from the top's clock to the names that carry it.
  pub clocked_marked : (clock : Text) (marks : List Bool) → ((n : ℕ) → n < count → is_marked marks n ≡ list_any (λ start. goes_to steps_in count start n) (filter_map number (signal top clock ∷ []))) → (one : Signal) → has_mark marks (number one) ≡ passes_on design top (signal top clock) one
  clocked_marked clock marks marked one = by (number one) refl
    where
      by : (o : Option ℕ) → number one ≡ o → has_mark marks o ≡ passes_on design top (signal top clock) one
      by None is = sym (passes_to_none (signal top clock) one is)
      by (Some n) is =
          marked n (number_within one n is)
          ∙ any_numbered number (λ start. goes_to steps_in count start n) (λ from. passes_on design top from one)
          (λ from start there. sym (passes_numbered from one start n there is))
          (λ from e. none_passes from one e) (signal top clock ∷ [])
          ∙ or_no (passes_on design top (signal top clock) one)

-- ---- the same, where a call has these by names of its own

pub steps_below_by : (count other : ℕ) (steps others : List Step) → other ≡ count → others ≡ steps → All (IsBelow count) steps → All (IsBelow other) others
steps_below_by count other steps others same are below =
    subst (λ n. All (IsBelow n) others) (sym same) (subst (All (IsBelow count)) (sym are) below)

pub starts_below_by : (count other : ℕ) (starts others : List ℕ) → other ≡ count → others ≡ starts → All (λ n. n < count) starts → All (λ n. n < other) others
starts_below_by count other starts others same are below =
    subst (λ k. All (λ n. n < k) others) (sym same) (subst (All (λ n. n < count)) (sym are) below)

pub marked_by : (marks : List Bool) (count other : ℕ) (steps other_steps : List Step) (starts other_starts : List ℕ) → other ≡ count → other_steps ≡ steps → other_starts ≡ starts
    → ((n : ℕ) → n < other → is_marked marks n ≡ list_any (λ start. goes_to other_steps other start n) other_starts)
    → (n : ℕ) → n < count → is_marked marks n ≡ list_any (λ start. goes_to steps count start n) starts
marked_by marks count other steps other_steps starts other_starts same steps_are starts_are marked n h =
    marked n (subst (λ k. n < k) (sym same) h)
    ∙ ap (λ k. list_any (λ start. goes_to other_steps k start n) other_starts) same
    ∙ ap (λ list. list_any (λ start. goes_to list count start n) other_starts) steps_are
    ∙ ap (list_any (λ start. goes_to steps count start n)) starts_are

-- Places of modules by name.
use Rattle.std.proofs.Common.{◌≡◌, ℕ, zero, suc, ◌+◌, ◌<◌, ◌≤◌, Bool, true, false, ◌||◌, List, [], ◌∷◌, ◌++◌, length, length-append, length-take-le, take, drop, get_or, refl, sym, ◌∙◌, ap, arith, cond, fold, Option, None, Some, is_some, bytes_eq, append_assoc}
use Rattle.std.specs.Cmp.Lexicographic.{bytes_decides}
use Rattle.std.specs.Option.{option_map, option_or}
use Rattle.std.proofs.lemmas.Bool.{false≢true}
use Rattle.std.proofs.lemmas.List.{drop_more, take_all}
use Rattle.std.proofs.lemmas.List.Sums.{fold-append}
use Rattle.vlog_tree.specs.declared.design.Module.{Module}
use Rattle.vlog_tree.specs.Meaning.Uses.{Text}
use Rattle.hierarchy.specs.Failures.{Failure, earlier, earliest, failure}
use Rattle.hierarchy.specs.Graph.{AreDistinct, name_at, place_among}
use Rattle.hierarchy.specs.Rules.{has_module, repeated_after}
use Rattle.hierarchy.proofs.ListLemmas.{next_item}

-- ---- the first place of a name

option_or_map : (o p : Option ℕ) → option_map suc (option_or o p) ≡ option_or (option_map suc o) (option_map suc p)
option_or_map None p = refl
option_or_map (Some place) p = refl

last_place : (b : Bool) (n : ℕ) → option_map suc (cond b (Some n) None) ≡ cond b (Some (suc n)) None
last_place true n = refl
last_place false n = refl

last_or_none : (b : Bool) → cond b (Some 0) (option_map suc None) ≡ option_or None (cond b (Some 0) None)
last_or_none true = refl
last_or_none false = refl

first_or_last : (here there : Bool) (o : Option ℕ) (n : ℕ) (p : Option ℕ) → o ≡ option_or p (cond there (Some n) None) → cond here (Some 0) (option_map suc o) ≡ option_or (cond here (Some 0) (option_map suc p)) (cond there (Some (suc n)) None)
first_or_last true there o n p e = refl
first_or_last false there o n p e = ap (option_map suc) e ∙ option_or_map p (cond there (Some n) None) ∙ ap (option_or (option_map suc p)) (last_place there n)

pub place_among-last : (modules : List Module) (m : Module) (name : Text) → place_among (modules ++ m ∷ []) name ≡ option_or (place_among modules name) (cond (bytes_eq m.name name) (Some (length modules)) None)
place_among-last [] m name = last_or_none (bytes_eq m.name name)
place_among-last (n ∷ modules) m name = first_or_last (bytes_eq n.name name) (bytes_eq m.name name) _ (length modules) _ (place_among-last modules m name)

some_by : (b : Bool) (o : Option ℕ) (c : Bool) → c ≡ is_some o → (b || c) ≡ is_some (cond b (Some 0) (option_map suc o))
some_by true o c e = refl
some_by false None c e = e
some_by false (Some place) c e = e

pub is_some-place : (modules : List Module) (name : Text) → has_module modules name ≡ is_some (place_among modules name)
is_some-place [] name = refl
is_some-place (m ∷ modules) name = some_by (bytes_eq m.name name) (place_among modules name) _ (is_some-place modules name)

-- ---- numbers given in turn

pub record Numbered (modules : List Module) (count : ℕ) (places : Text → Option ℕ) (repeated : Option Failure) : Type 0 where
  pub placed : (name : Text) → places name ≡ place_among (take count modules) name
  pub noted : fold earlier repeated (repeated_after (take count modules) (drop count modules)) ≡ earliest (repeated_after [] modules)

next_left : (modules : List Module) (i : ℕ) (m : Module) → i < length modules → m ≡ get_or modules i m → drop i modules ≡ m ∷ drop (i + 1) modules
next_left modules i m h is = drop_more modules i m h ∙ ap (λ n. n ∷ drop (i + 1) modules) (sym is)

pub numbered_turn : (modules : List Module) (count : ℕ) (m : Module) (places : Text → Option ℕ) (repeated : Option Failure) (places_after : Text → Option ℕ) (repeated_next : Option Failure) → count < length modules → m ≡ get_or modules count m → Numbered modules count places repeated → ((name : Text) → places_after name ≡ option_or (places name) (cond (bytes_eq m.name name) (Some count) None)) → repeated_next ≡ fold earlier repeated (cond (is_some (places m.name)) (failure m.at [] m.name ∷ []) []) → Numbered modules (count + 1) places_after repeated_next
numbered_turn modules count m places repeated places_after repeated_next h is so_far put noted_here = record {
  placed = λ name.
      put name ∙ ap (λ o. option_or o (cond (bytes_eq m.name name) (Some count) None)) (so_far.placed name)
      ∙ ap (λ n. option_or (place_among (take count modules) name) (cond (bytes_eq m.name name) (Some n) None)) (sym (length-take-le count modules (omega arith)))
      ∙ sym (place_among-last (take count modules) m name) ∙ ap (λ ms. place_among ms name) (sym (next_item modules count m h is));
  noted =
      let some : is_some (places m.name) ≡ has_module (take count modules) m.name = ap is_some (so_far.placed m.name) ∙ sym (is_some-place (take count modules) m.name) in
      let first = cond (has_module (take count modules) m.name) (failure m.at [] m.name ∷ []) [] in
      ap (λ ms. fold earlier repeated_next (repeated_after ms (drop (count + 1) modules))) (next_item modules count m h is)
      ∙ ap (λ f. fold earlier f (repeated_after (take count modules ++ m ∷ []) (drop (count + 1) modules)))
      (noted_here ∙ ap (λ b. fold earlier repeated (cond b (failure m.at [] m.name ∷ []) [])) some)
      ∙ sym (fold-append earlier repeated first (repeated_after (take count modules ++ m ∷ []) (drop (count + 1) modules)))
      ∙ sym (ap (λ ms. fold earlier repeated (repeated_after (take count modules) ms)) (next_left modules count m h is)) ∙ so_far.noted;
}

-- at the end
pub numbered_places : (modules : List Module) (count : ℕ) (places : Text → Option ℕ) (repeated : Option Failure) → length modules ≤ count → Numbered modules count places repeated → places ≡ place_among modules
numbered_places modules count places repeated h so_far =
    λ i name. (so_far.placed name ∙ ap (λ ms. place_among ms name) (take_all count modules h)) i

-- ---- modules none of which is repeated

never_none : (failures : List Failure) (found : Failure) → fold earlier (Some found) failures ≡ None → ⊥
never_none [] found e = cc
never_none (next ∷ failures) found e = never_none failures _ e

none_noted : (failures : List Failure) → earliest failures ≡ None → failures ≡ []
none_noted [] e = refl
none_noted (next ∷ failures) e = absurd (never_none failures next e)

first_is_new : (b : Bool) (here : Failure) (rest : List Failure) → cond b (here ∷ []) [] ++ rest ≡ [] → (b ≡ false) × (rest ≡ [])
first_is_new true here rest e = absurd (cc)
first_is_new false here rest e = (refl, e)

is_none_place : (o : Option ℕ) → is_some o ≡ false → o ≡ None
is_none_place None e = refl
is_none_place (Some place) e = absurd (false≢true (sym e))

appended : (b : Bool) (o found : Option ℕ) (n : ℕ) → cond b (Some 0) (option_map suc o) ≡ None → (o ≡ None → found ≡ Some n) → cond b (Some 0) (option_map suc found) ≡ Some (suc n)
appended true o found n none later = absurd (cc)
appended false None found n none later = ap (option_map suc) (later refl)
appended false (Some place) found n none later = absurd (cc)

place_among-append : (before modules : List Module) (m : Module) (name : Text) → place_among before name ≡ None → bytes_eq m.name name ≡ true → place_among (before ++ m ∷ modules) name ≡ Some (length before)
place_among-append [] modules m name none same = ap (λ b. cond b (Some 0) (option_map suc (place_among modules name))) same
place_among-append (n ∷ before) modules m name none same = appended (bytes_eq n.name name) (place_among before name) _ (length before) none (λ e. place_among-append before modules m name e same)

distinct_after : (before modules : List Module) → repeated_after before modules ≡ [] → (place : ℕ) → place < length modules → place_among (before ++ modules) (name_at modules place) ≡ Some (length before + place)
distinct_after before [] e place h = absurd (omega arith)
distinct_after before (m ∷ modules) e zero h =
    let new = first_is_new (has_module before m.name) (failure m.at [] m.name) (repeated_after (before ++ m ∷ []) modules) e in
    let none = is_none_place (place_among before m.name) (sym (is_some-place before m.name) ∙ new.0) in
    place_among-append before modules m m.name none ((bytes_decides m.name m.name).1 refl) ∙ ap Some (let same : length before ≡ length before + 0 = omega arith in same)
distinct_after before (m ∷ modules) e (suc place) h =
    let new = first_is_new (has_module before m.name) (failure m.at [] m.name) (repeated_after (before ++ m ∷ []) modules) e in
    ap (λ ms. place_among ms (name_at modules place)) (sym (append_assoc before (m ∷ []) modules))
    ∙ distinct_after (before ++ m ∷ []) modules new.1 place (omega arith)
    ∙ ap Some (let len : length (before ++ m ∷ []) ≡ length before + 1 = length-append before (m ∷ []) in let same : length (before ++ m ∷ []) + place ≡ length before + suc place = omega arith in same)

pub none_repeated : (modules : List Module) → earliest (repeated_after [] modules) ≡ None → AreDistinct modules
none_repeated modules e place h = distinct_after [] modules (none_noted (repeated_after [] modules) e) place h ∙ ap Some (let same : 0 + place ≡ place = omega arith in same)

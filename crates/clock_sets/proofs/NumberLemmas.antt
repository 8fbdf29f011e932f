-- Names and their numbers.
use Rattle.std.proofs.Common.{◌≡◌, ℕ, zero, suc, ◌+◌, ◌<◌, ◌≤◌, Bool, true, false, ◌||◌, ◌&&◌, List, [], ◌∷◌, ◌++◌, length, length-append, get_or, map, refl, sym, ◌∙◌, ap, arith, nat_eq, Option, Some, None, is_some, cond, bytes_eq}
use Rattle.std.specs.Cmp.Lexicographic.{bytes_decides}
use Rattle.std.specs.List.{list_any, position_from}
use Rattle.std.specs.Option.{option_map, option_or}
use Rattle.std.specs.Prelude.{position}
use Rattle.std.proofs.lemmas.Bool.{false≢true, and_from, eqb-true, eq-eqb}
use Rattle.std.proofs.lemmas.Iterator.Adapters.{position_from-zero}
use Rattle.std.proofs.lemmas.List.{length-map}
use Rattle.std.proofs.lemmas.List.Quantifiers.{position-Some}
use Rattle.vlog_tree.specs.declared.design.Module.{Module}
use Rattle.vlog_tree.specs.Meaning.Uses.{Text}
use Rattle.hierarchy.specs.Graph.{AreDistinct, name_at, place_among}
use Rattle.hierarchy.proofs.DesignLemmas.{name_is, place_within}
use Rattle.hierarchy.proofs.MarkLemmas.{same_test}
use Rattle.nets.specs.Nets.{nets}
use Rattle.clock_sets.specs.Numbers.{number_of, starts_from}
use Rattle.clock_sets.specs.Passing.{Signal, same_signal, signal, signals}

-- ---- places in lists

shifted : {X : Type 0} (p : X → Bool) (a i j : ℕ) (xs : List X) → a + i ≡ j → position_from p j xs ≡ option_map (λ n. a + n) (position_from p i xs)
shifted p a i j [] e = refl
shifted p a i j (x ∷ xs) e = by (p x) (shifted p a (i + 1) (j + 1) xs (omega arith))
  where
    by : (b : Bool) → position_from p (j + 1) xs ≡ option_map (λ n. a + n) (position_from p (i + 1) xs)
        → cond b (Some j) (position_from p (j + 1) xs) ≡ option_map (λ n. a + n) (cond b (Some i) (position_from p (i + 1) xs))
    by true rest = ap Some (sym e)
    by false rest = rest

from_append : {X : Type 0} (p : X → Bool) (i j : ℕ) (xs ys : List X) → i + length xs ≡ j → position_from p i (xs ++ ys) ≡ option_or (position_from p i xs) (position_from p j ys)
from_append p i j [] ys e = ap (λ n. position_from p n ys) (omega arith)
from_append p i j (x ∷ xs) ys e = by (p x) (from_append p (i + 1) j xs ys (omega arith))
  where
    by : (b : Bool) → position_from p (i + 1) (xs ++ ys) ≡ option_or (position_from p (i + 1) xs) (position_from p j ys)
        → cond b (Some i) (position_from p (i + 1) (xs ++ ys)) ≡ option_or (cond b (Some i) (position_from p (i + 1) xs)) (position_from p j ys)
    by true rest = refl
    by false rest = rest

from_map : {X Y : Type 0} (p : Y → Bool) (f : X → Y) (i : ℕ) (xs : List X) → position_from p i (map f xs) ≡ position_from (λ x. p (f x)) i xs
from_map p f i [] = refl
from_map p f i (x ∷ xs) = ap (cond (p (f x)) (Some i)) (from_map p f (i + 1) xs)

from_never : {X : Type 0} (i : ℕ) (xs : List X) → position_from (λ x. false) i xs ≡ None
from_never i [] = refl
from_never i (x ∷ xs) = from_never (i + 1) xs

and_first : (a b : Bool) → (a && b) ≡ true → a ≡ true
and_first true b h = refl
and_first false b h = absurd (false≢true h)

and_second : (a b : Bool) → (a && b) ≡ true → b ≡ true
and_second true b h = h
and_second false b h = absurd (false≢true h)

pub is_some-from : {X : Type 0} (p : X → Bool) (i : ℕ) (xs : List X) → list_any p xs ≡ is_some (position_from p i xs)
is_some-from p i [] = refl
is_some-from p i (x ∷ xs) = by (p x) (is_some-from p (i + 1) xs)
  where
    by : (b : Bool) → list_any p xs ≡ is_some (position_from p (i + 1) xs) → (b || list_any p xs) ≡ is_some (cond b (Some i) (position_from p (i + 1) xs))
    by true rest = refl
    by false rest = rest

-- ---- the number of a name

pub number_from : (modules : List Module) (one : Signal) → number_of modules one ≡ position_from (same_signal one) 0 (signals modules)
number_from modules one = position_from-zero (same_signal one) (signals modules)

in_module : (module_name name : Text) (m : Module) (i : ℕ) (b : Bool) → bytes_eq module_name m.name ≡ b → position_from (same_signal (signal module_name name)) i (map (λ entry. signal m.name entry.0) (nets m)) ≡ position_from (λ entry. b && bytes_eq name entry.0) i (nets m)
in_module module_name name m i b e =
    from_map (same_signal (signal module_name name)) (λ entry. signal m.name entry.0) i (nets m)
    ∙ ap (λ c. position_from (λ entry. c && bytes_eq name entry.0) i (nets m)) e

other_way : (xs ys : Text) → bytes_eq xs ys ≡ bytes_eq ys xs
other_way xs ys =
    same_test (bytes_eq xs ys) (bytes_eq ys xs) (λ e. (bytes_decides ys xs).1 (sym ((bytes_decides xs ys).0 e)))
    (λ e. (bytes_decides xs ys).1 (sym ((bytes_decides ys xs).0 e)))

first_is_other : (b : Bool) (o : Option ℕ) → cond b (Some 0) (option_map suc o) ≡ None → (b ≡ false) × (o ≡ None)
first_is_other true o e = absurd (cc)
first_is_other false None e = (refl, refl)
first_is_other false (Some place) e = absurd (cc)

-- A name of no module has no number.
pub none_from : (module_name name : Text) (modules : List Module) (i : ℕ) → place_among modules module_name ≡ None → position_from (same_signal (signal module_name name)) i (signals modules) ≡ None
none_from module_name name [] i e = refl
none_from module_name name (m ∷ modules) i e =
    let parts = first_is_other (bytes_eq m.name module_name) (place_among modules module_name) e in
    from_append (same_signal (signal module_name name)) i (i + length (map (λ entry. signal m.name entry.0) (nets m))) (map (λ entry. signal m.name entry.0) (nets m)) (signals modules) refl
    ∙ ap (λ o. option_or o (position_from (same_signal (signal module_name name)) (i + length (map (λ entry. signal m.name entry.0) (nets m))) (signals modules)))
    (in_module module_name name m i false (other_way module_name m.name ∙ parts.0) ∙ from_never i (nets m))
    ∙ none_from module_name name modules _ parts.1

later : (b : Bool) (o : Option ℕ) (place : ℕ) → cond b (Some 0) (option_map suc o) ≡ Some (suc place) → (b ≡ false) × (o ≡ Some place)
later true o place e = absurd (cc)
later false None place e = absurd (cc)
later false (Some other) place e = (refl, cc)

pub distinct_rest : (m : Module) (modules : List Module) → AreDistinct (m ∷ modules) → AreDistinct modules
distinct_rest m modules distinct place h =
    (later (bytes_eq m.name (name_at modules place)) (place_among modules (name_at modules place)) place (distinct (suc place) (omega arith))).1

-- No later module has the first one's name.
none_later : (m : Module) (modules : List Module) (o : Option ℕ) → AreDistinct (m ∷ modules) → place_among modules m.name ≡ o → place_among modules m.name ≡ None
none_later m modules None distinct e = e
none_later m modules (Some place) distinct e =
    let within = place_within modules m.name place e in
    let same : name_at modules place ≡ m.name = name_is modules m.name place e in
    let other = (later (bytes_eq m.name (name_at modules place)) (place_among modules (name_at modules place)) place (distinct (suc place) (omega arith))).0 in
    absurd (false≢true (sym other ∙ (bytes_decides m.name (name_at modules place)).1 (sym same)))

none_later_by : (m : Module) (modules : List Module) (name : Text) → m.name ≡ name → AreDistinct (m ∷ modules) → place_among modules name ≡ None
none_later_by m modules name same distinct = ap (place_among modules) (sym same) ∙ none_later m modules (place_among modules m.name) distinct refl

or_none : {X : Type 0} (o : Option X) → option_or o None ≡ o
or_none None = refl
or_none (Some x) = refl

is_first : (b : Bool) (o : Option ℕ) → cond b (Some 0) (option_map suc o) ≡ Some 0 → b ≡ true
is_first true o e = refl
is_first false None e = absurd (cc)
is_first false (Some place) e = absurd (cc)

-- The number of a name of a module is that of the module's first name and the name's place.
pub numbers_at : (module_name name : Text) (modules : List Module) (start place : ℕ) (m : Module) → AreDistinct modules → place_among modules module_name ≡ Some place → m ≡ get_or modules place m → position_from (same_signal (signal module_name name)) start (signals modules) ≡ option_map (λ i. get_or (starts_from start modules) place 0 + i) (position_from (λ entry. bytes_eq name entry.0) 0 (nets m))
numbers_at module_name name [] start place m distinct found is = absurd (cc)
numbers_at module_name name (first ∷ modules) start zero m distinct found is =
    let here : bytes_eq first.name module_name ≡ true = is_first (bytes_eq first.name module_name) (place_among modules module_name) found in
    let same : first.name ≡ module_name = (bytes_decides first.name module_name).0 here in
    let none : place_among modules module_name ≡ None = none_later_by first modules module_name same distinct in
    let len = length-map (nets first) (λ entry. signal first.name entry.0) in
    from_append (same_signal (signal module_name name)) start (start + length (nets first)) (map (λ entry. signal first.name entry.0) (nets first)) (signals modules) (omega arith)
    ∙ ap (option_or (position_from (same_signal (signal module_name name)) start (map (λ entry. signal first.name entry.0) (nets first)))) (none_from module_name name modules (start + length (nets first)) none)
    ∙ or_none (position_from (same_signal (signal module_name name)) start (map (λ entry. signal first.name entry.0) (nets first)))
    ∙ in_module module_name name first start true (other_way module_name first.name ∙ here)
    ∙ shifted (λ entry. bytes_eq name entry.0) start 0 start (nets first) (omega arith)
    ∙ ap (λ (n : Module). option_map (λ i. start + i) (position_from (λ entry. bytes_eq name entry.0) 0 (nets n))) (sym is)
numbers_at module_name name (first ∷ modules) start (suc place) m distinct found is =
    let parts = later (bytes_eq first.name module_name) (place_among modules module_name) place found in
    let len = length-map (nets first) (λ entry. signal first.name entry.0) in
    from_append (same_signal (signal module_name name)) start (start + length (nets first)) (map (λ entry. signal first.name entry.0) (nets first)) (signals modules) (omega arith)
    ∙ ap (λ o. option_or o (position_from (same_signal (signal module_name name)) (start + length (nets first)) (signals modules)))
    (in_module module_name name first start false (other_way module_name first.name ∙ parts.0) ∙ from_never start (nets first))
    ∙ numbers_at module_name name modules (start + length (nets first)) place m (distinct_rest first modules distinct) parts.1 is

pub length-starts : (start : ℕ) (modules : List Module) → length (starts_from start modules) ≡ length modules
length-starts start [] = refl
length-starts start (m ∷ modules) = ap suc (length-starts (start + length (nets m)) modules)

pub fits_at : (modules : List Module) (start place : ℕ) (m : Module) → place < length modules → m ≡ get_or modules place m → get_or (starts_from start modules) place 0 + length (nets m) ≤ start + length (signals modules)
fits_at [] start place m h is = absurd (omega arith)
fits_at (first ∷ modules) start zero m h is =
    let len = length-map (nets first) (λ entry. signal first.name entry.0) in
    let all = length-append (map (λ entry. signal first.name entry.0) (nets first)) (signals modules) in
    let same = ap (λ (n : Module). length (nets n)) is in
    omega arith
fits_at (first ∷ modules) start (suc place) m h is =
    let len = length-map (nets first) (λ entry. signal first.name entry.0) in
    let all = length-append (map (λ entry. signal first.name entry.0) (nets first)) (signals modules) in
    let rest = fits_at modules (start + length (nets first)) place m (omega arith) is in
    omega arith

-- ---- what a table of starts tells

module _ (modules : List Module) (starts : List ℕ) (known : starts ≡ starts_from 0 modules) (place : ℕ) (m : Module) (is : m ≡ get_or modules place m) where
  pub number_is : (module_name name : Text) → AreDistinct modules → place_among modules module_name ≡ Some place → (index : Option ℕ) → index ≡ position (λ entry. bytes_eq name entry.0) (nets m) → option_map (λ i. get_or starts place 0 + i) index ≡ number_of modules (signal module_name name)
  number_is module_name name distinct found index at =
      ap (option_map (λ i. get_or starts place 0 + i)) (at ∙ position_from-zero (λ entry. bytes_eq name entry.0) (nets m))
      ∙ ap (λ list. option_map (λ i. get_or list place 0 + i) (position_from (λ entry. bytes_eq name entry.0) 0 (nets m))) known
      ∙ sym (numbers_at module_name name modules 0 place m distinct found is)
      ∙ sym (number_from modules (signal module_name name))

  pub number_fits : (index count : ℕ) → count ≡ length (signals modules) → place < length modules → index < length (nets m) → get_or starts place 0 + index < count
  number_fits index count all h within =
      let most = fits_at modules 0 place m h is in
      let same = ap (λ list. get_or list place 0) known in
      omega arith

pub no_number : (module_name name : Text) (modules : List Module) → place_among modules module_name ≡ None → None ≡ number_of modules (signal module_name name)
no_number module_name name modules none = sym (number_from modules (signal module_name name) ∙ none_from module_name name modules 0 none)

-- ---- the numbers of names tell them apart

signals_same : (one other : Signal) → same_signal one other ≡ true → one ≡ other
signals_same one other e =
    let first = (bytes_decides one.module_name other.module_name).0 (and_first (bytes_eq one.module_name other.module_name) (bytes_eq one.name other.name) e) in
    let second = (bytes_decides one.name other.name).0 (and_second (bytes_eq one.module_name other.module_name) (bytes_eq one.name other.name) e) in
    λ i. record { module_name = first i; name = second i }

same_itself : (one other : Signal) → one ≡ other → same_signal one other ≡ true
same_itself one other e =
    and_from (bytes_eq one.module_name other.module_name) (bytes_eq one.name other.name) ((bytes_decides one.module_name other.module_name).1 (ap (λ (s : Signal). s.module_name) e))
    ((bytes_decides one.name other.name).1 (ap (λ (s : Signal). s.name) e))

pub number_below : (modules : List Module) (one : Signal) (n : ℕ) → number_of modules one ≡ Some n → n < length (signals modules)
number_below modules one n e = (position-Some (same_signal one) (signals modules) n one e).0

named_by : (modules : List Module) (one d : Signal) (n : ℕ) → number_of modules one ≡ Some n → one ≡ get_or (signals modules) n d
named_by modules one d n e = signals_same one (get_or (signals modules) n d) (position-Some (same_signal one) (signals modules) n d e).1

pub same_number : (modules : List Module) (one other : Signal) (a b : ℕ) → number_of modules one ≡ Some a → number_of modules other ≡ Some b → same_signal one other ≡ nat_eq a b
same_number modules one other a b at there =
    same_test (same_signal one other) (nat_eq a b)
    (λ e. let numbers : Some a ≡ Some b = sym at ∙ ap (number_of modules) (signals_same one other e) ∙ there in eq-eqb a b (cc))
    (λ e. same_itself one other (named_by modules one one a at ∙ ap (λ n. get_or (signals modules) n one) (eqb-true a b e) ∙ sym (named_by modules other one b there)))

-- A name of a module has a number.
pub has_number : (modules : List Module) (one : Signal) → list_any (same_signal one) (signals modules) ≡ is_some (number_of modules one)
has_number modules one = is_some-from (same_signal one) 0 (signals modules) ∙ ap is_some (sym (number_from modules one))

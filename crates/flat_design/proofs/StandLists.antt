-- Places in lists, and what stands there.
use Rattle.std.proofs.Common.{◌≡◌, ℕ, zero, suc, ◌+◌, ◌<◌, Bool, true, false, ◌&&◌, ◌||◌, ◌==◌, List, [], ◌∷◌, ◌++◌, Option, Some, None, refl, sym, ◌∙◌, ap, arith, bytes_eq, cond, flat_map, length, option_map, slice_get}
use Rattle.std.specs.Cmp.Lexicographic.{pointwise_decides}
use Rattle.std.specs.List.{list_any, position, position_from, range_with_len}
use Rattle.std.specs.Option.{option_and_then}
use Rattle.std.proofs.lemmas.Bool.{and_from, and_parts, false≢true}
use Rattle.std.proofs.lemmas.Bool.Decides.{Decides-eqb}
use Rattle.std.proofs.lemmas.Option.{none-some, same_Some}
use Rattle.std.proofs.lemmas.Slice.Eq.{bytes_eq-Decides}
use Rattle.vlog_tree.specs.declared.key.Key.{Key}
use Rattle.vlog_tree.specs.Meaning.Instances.{same_path}
use Rattle.vlog_tree.specs.Meaning.Keys.{same_key}
use Rattle.vlog_tree.specs.Meaning.Lefts.{Bit, same_bit}
use Rattle.vlog_tree.specs.Meaning.Value.{entry}
use Rattle.numbering.proofs.NumberListLemmas.{before, from_start, from_zero}

-- ---- a member that passes a test

pub or_left : (a b : Bool) → a ≡ true → (a || b) ≡ true
or_left true b is = refl
or_left false b is = absurd (false≢true is)

pub or_right : (a b : Bool) → b ≡ true → (a || b) ≡ true
or_right true b is = refl
or_right false b is = is

found_from : {X : Type 0} (test : X → Bool) (i : ℕ) (xs : List X) → list_any test xs ≡ true
    → (o : ℕ) × (position_from test i xs ≡ Some o)
found_from test i [] any = absurd (false≢true any)
found_from test i (x ∷ xs) any = by (test x) any (found_from test (i + 1) xs)
  where
    by : (b : Bool) → (b || list_any test xs) ≡ true
        → (list_any test xs ≡ true → (o : ℕ) × (position_from test (i + 1) xs ≡ Some o))
        → (o : ℕ) × (cond b (Some i) (position_from test (i + 1) xs) ≡ Some o)
    by true any rest = (i, refl)
    by false any rest = rest any

-- Where some member passes, one is the first.
pub found_place : {X : Type 0} (test : X → Bool) (xs : List X) → list_any test xs ≡ true
    → (o : ℕ) × (position test xs ≡ Some o)
found_place test xs any =
    let found : (o : ℕ) × (position_from test 0 xs ≡ Some o) = found_from test 0 xs any in
    (found.0, from_start test xs ∙ found.1)

any_from : {X : Type 0} (test : X → Bool) (i : ℕ) (xs : List X) (o : ℕ) → position_from test i xs ≡ Some o
    → list_any test xs ≡ true
any_from test i [] o at = absurd (none-some o at)
any_from test i (x ∷ xs) o at = by (test x) at (any_from test (i + 1) xs o)
  where
    by : (b : Bool) → cond b (Some i) (position_from test (i + 1) xs) ≡ Some o
        → (position_from test (i + 1) xs ≡ Some o → list_any test xs ≡ true) → (b || list_any test xs) ≡ true
    by true at rest = refl
    by false at rest = rest at

pub any_placed : {X : Type 0} (test : X → Bool) (xs : List X) (o : ℕ) → position test xs ≡ Some o → list_any test xs ≡ true
any_placed test xs o at = any_from test 0 xs o (sym (from_start test xs) ∙ at)

-- what a test of equal things finds at a place
placed_from : {X : Type 0} (same : X → X → Bool) → ((x y : X) → same x y ≡ true → x ≡ y)
    → (i : ℕ) (xs : List X) (x : X) (o : ℕ) → position_from (same x) i xs ≡ Some o
    → (rest : ℕ) × (o ≡ i + rest) × (slice_get xs rest ≡ Some x)
placed_from same equal i [] x o at = absurd (none-some o at)
placed_from {X = X} same equal i (y ∷ ys) x o at = by (same x y) refl at (placed_from same equal (i + 1) ys x o)
  where
    by : (b : Bool) → same x y ≡ b → cond b (Some i) (position_from (same x) (i + 1) ys) ≡ Some o
        → (position_from (same x) (i + 1) ys ≡ Some o → (rest : ℕ) × (o ≡ i + 1 + rest) × (slice_get ys rest ≡ Some x))
        → (rest : ℕ) × (o ≡ i + rest) × (slice_get (y ∷ ys) rest ≡ Some x)
    by true is at more = (zero, (let e : i ≡ o = same_Some i o at in omega arith), ap Some (sym (equal x y is)))
    by false is at more =
        let found : (rest : ℕ) × (o ≡ i + 1 + rest) × (slice_get ys rest ≡ Some x) = more at in
        (suc found.0, (let e : o ≡ i + 1 + found.0 = found.1 in omega arith), found.2)

pub placed_at : {X : Type 0} (same : X → X → Bool) → ((x y : X) → same x y ≡ true → x ≡ y) → (xs : List X) (x : X) (o : ℕ)
    → position (same x) xs ≡ Some o → slice_get xs o ≡ Some x
placed_at {X = X} same equal xs x o at =
    let found : (rest : ℕ) × (o ≡ 0 + rest) × (slice_get xs rest ≡ Some x) =
    placed_from same equal 0 xs x o (sym (from_start (same x) xs) ∙ at) in
    ap (slice_get xs) (let e : o ≡ 0 + found.0 = found.1 in omega arith) ∙ found.2

-- ---- lists one behind the other

pub in_front : {X : Type 0} (xs ys : List X) (i : ℕ) (x : X) → slice_get xs i ≡ Some x → slice_get (xs ++ ys) i ≡ Some x
in_front [] ys i x at = absurd (none-some x at)
in_front (y ∷ xs) ys zero x at = at
in_front (y ∷ xs) ys (suc i) x at = in_front xs ys i x at

pub behind : {X : Type 0} (xs ys : List X) (n i : ℕ) → n ≡ length xs + i → slice_get (xs ++ ys) n ≡ slice_get ys i
behind [] ys n i e = ap (slice_get ys) (omega (arith, e))
behind (x ∷ xs) ys zero i e = absurd (omega (arith, e))
behind (x ∷ xs) ys (suc n) i e = behind xs ys n i (omega (arith, e))

-- what stands in the list of a member, in all of the lists
pub flat_at : {X Y : Type 0} (f : X → List Y) (xs : List X) (i : ℕ) (x : X) (o : ℕ) (y : Y) → slice_get xs i ≡ Some x
    → slice_get (f x) o ≡ Some y → slice_get (flat_map f xs) (before f xs i + o) ≡ Some y
flat_at f [] i x o y at here = absurd (none-some x at)
flat_at f (z ∷ xs) zero x o y at here =
    ap (slice_get (f z ++ flat_map f xs)) {x = 0 + o} {y = o} (omega arith)
    ∙ in_front (f z) (flat_map f xs) o y (ap (λ w. slice_get (f w) o) (same_Some z x at) ∙ here)
flat_at f (z ∷ xs) (suc i) x o y at here =
    behind (f z) (flat_map f xs) (length (f z) + before f xs i + o) (before f xs i + o) (omega arith)
    ∙ flat_at f xs i x o y at here

pub range_has : (low count i k : ℕ) → k ≡ low + i → i < count → slice_get (range_with_len low count) i ≡ Some k
range_has low zero i k e within = absurd (omega (arith, within))
range_has low (suc count) zero k e within = ap Some {x = low} {y = k} (omega (arith, e))
range_has low (suc count) (suc i) k e within = range_has (low + 1) count i k (omega (arith, e)) (omega (arith, within))

-- ---- equal bits and keys

pub keys_equal : (a b : Key) → same_key a b ≡ true → a ≡ b
keys_equal a b same =
    let outer = and_parts (same_path a.path b.path) (bytes_eq a.name b.name && (a.bit == b.bit)) same in
    let inner = and_parts (bytes_eq a.name b.name) (a.bit == b.bit) outer.1 in
    let path : a.path ≡ b.path = (pointwise_decides bytes_eq-Decides a.path b.path).0 outer.0 in
    let name : a.name ≡ b.name = (bytes_eq-Decides a.name b.name).0 inner.0 in
    let bit : a.bit ≡ b.bit = (Decides-eqb a.bit b.bit).0 inner.1 in
    λ j. record { path = path j; name = name j; bit = bit j }

pub key_itself : (a : Key) → same_key a a ≡ true
key_itself a =
    and_from (same_path a.path a.path) (bytes_eq a.name a.name && (a.bit == a.bit))
    ((pointwise_decides bytes_eq-Decides a.path a.path).1 refl)
    (and_from (bytes_eq a.name a.name) (a.bit == a.bit) ((bytes_eq-Decides a.name a.name).1 refl) ((Decides-eqb a.bit a.bit).1 refl))

other_way : (a b : Key) → same_key a b ≡ true → same_key b a ≡ true
other_way a b same = ap (λ key. same_key b key) (keys_equal a b same) ∙ key_itself b

both_same : (a b : Bool) → (a ≡ true → b ≡ true) → (b ≡ true → a ≡ true) → a ≡ b
both_same true b h k = sym (h refl)
both_same false true h k = k refl
both_same false false h k = refl

key_swapped : (a b : Key) → same_key a b ≡ same_key b a
key_swapped a b = both_same (same_key a b) (same_key b a) (other_way a b) (other_way b a)

pub bits_equal : (a b : Bit) → same_bit a b ≡ true → a ≡ b
bits_equal a b same =
    let parts = and_parts (bytes_eq a.name b.name) (a.place == b.place) same in
    let name : a.name ≡ b.name = (bytes_eq-Decides a.name b.name).0 parts.0 in
    let place : a.place ≡ b.place = (Decides-eqb a.place b.place).0 parts.1 in
    λ j. record { name = name j; place = place j }

-- ---- the entry of a key

none_there : (o : Option ℕ) → ◌≡◌ {A = Option Bool} None (option_and_then (slice_get []) o)
none_there None = refl
none_there (Some o) = refl

one_further : (value : Bool) (values : List Bool) (o : Option ℕ)
    → option_and_then (slice_get values) o ≡ option_and_then (slice_get (value ∷ values)) (option_map (λ n. 0 + 1 + n) o)
one_further value values None = refl
one_further value values (Some n) = ap (slice_get (value ∷ values)) {x = suc n} {y = 0 + 1 + n} (omega arith)

entry_from : (keys : List Key) (values : List Bool) (key : Key)
    → entry keys values key ≡ option_and_then (slice_get values) (position_from (same_key key) 0 keys)
entry_from [] values key = refl
entry_from (other ∷ keys) [] key = none_there (position_from (same_key key) 0 (other ∷ keys))
entry_from (other ∷ keys) (value ∷ values) key = by (same_key other key) (key_swapped key other) (entry_from keys values key)
  where
    by : (b : Bool) → same_key key other ≡ b
        → entry keys values key ≡ option_and_then (slice_get values) (position_from (same_key key) 0 keys)
        → cond b (Some value) (entry keys values key)
        ≡ option_and_then (slice_get (value ∷ values)) (cond (same_key key other) (Some 0) (position_from (same_key key) (0 + 1) keys))
    by true is rest =
        sym (ap (λ b. option_and_then (slice_get (value ∷ values)) (cond b (Some 0) (position_from (same_key key) (0 + 1) keys))) is)
    by false is rest =
        rest
        ∙ one_further value values (position_from (same_key key) 0 keys)
        ∙ ap (option_and_then (slice_get (value ∷ values))) (sym (from_zero (same_key key) (0 + 1) keys))
        ∙ sym (ap (λ b. option_and_then (slice_get (value ∷ values)) (cond b (Some 0) (position_from (same_key key) (0 + 1) keys))) is)

-- The entry of a key stands at the key's place.
pub entry_at : (keys : List Key) (values : List Bool) (key : Key) (o : Option ℕ) → position (same_key key) keys ≡ o
    → entry keys values key ≡ option_and_then (slice_get values) o
entry_at keys values key o is =
    entry_from keys values key ∙ ap (option_and_then (slice_get values)) (sym (from_start (same_key key) keys) ∙ is)

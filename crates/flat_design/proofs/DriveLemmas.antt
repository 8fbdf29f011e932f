-- The first edge that a list of drives gives to a key, and the values that it has.
use Rattle.std.specs.Prelude.{◌≡◌, ℕ, suc, ◌+◌, ◌<◌, ◌≤◌, ◌==◌, List, [], ◌∷◌, ◌++◌, Bool, true, false, ◌&&◌, Option, None, Some, bytes_eq, cond, length, map, option_and_then, option_map, refl, slice_get, unwrap_or}
use Rattle.std.specs.List.{position, position_from, zip}
use Rattle.std.specs.Option.{option_or, option_to_list}
use Rattle.std.proofs.Common.{ap, arith, get_or, sym, subst, ◌∙◌}
use Rattle.std.proofs.lemmas.Bool.Decides.{Decides-eqb, same_from_decides}
use Rattle.std.proofs.lemmas.Option.{same_Some, slice_get-get_or}
use Rattle.std.proofs.lemmas.Slice.Eq.{bytes_eq-Decides}
use Rattle.flat_net.specs.declared.edge.Edge.{Edge}
use Rattle.flat_net.specs.Edges.{zero_edge}
use Rattle.flat_net.specs.Values.{Reading, edge_value}
use Rattle.vlog_tree.specs.declared.key.Key.{Key}
use Rattle.vlog_tree.specs.Meaning.Instances.{Path, same_path}
use Rattle.vlog_tree.specs.Meaning.Keys.{key_of, same_key}
use Rattle.vlog_tree.specs.Meaning.Lefts.{Bit, number_in, same_bit}
use Rattle.vlog_tree.specs.Meaning.Uses.{Text}
use Rattle.lowering.specs.Meaning.{HasZero, Relation, edge_at}
use Rattle.lowering.proofs.EdgeLemmas.{zero_carries}
use Rattle.lowering.proofs.RelationLemmas.{IsKept}
use Rattle.numbering.specs.Numbering.{key_in, keyed}
use Rattle.numbering.proofs.NumberBitLemmas.{path_itself}
use Rattle.numbering.proofs.NumberListLemmas.{from_start, mapped_alike, shifted}
use Rattle.flat_design.specs.Flat.{given_to}
use Rattle.flat_design.specs.Items.{Drive}

-- ---- the first edge

-- the edge that a key is given first, where it is given one
abbrev pub first_edge : List Drive → Key → Option Edge
first_edge [] key = None
first_edge (drive ∷ others) key = cond (same_key drive.0 key) (Some drive.1) (first_edge others key)

pub given_is : (drives : List Drive) (key : Key) → unwrap_or (first_edge drives key) zero_edge ≡ given_to drives key
given_is [] key = refl
given_is (drive ∷ others) key = by (same_key drive.0 key) (given_is others key)
  where
    by : (b : Bool) → unwrap_or (first_edge others key) zero_edge ≡ given_to others key
        → unwrap_or (cond b (Some drive.1) (first_edge others key)) zero_edge ≡ cond b drive.1 (given_to others key)
    by true rest = refl
    by false rest = rest

pub first_append : (drives more : List Drive) (key : Key)
    → first_edge (drives ++ more) key ≡ option_or (first_edge drives key) (first_edge more key)
first_append [] more key = refl
first_append (drive ∷ others) more key = by (same_key drive.0 key) (first_append others more key)
  where
    by : (b : Bool) → first_edge (others ++ more) key ≡ option_or (first_edge others key) (first_edge more key)
        → cond b (Some drive.1) (first_edge (others ++ more) key)
        ≡ option_or (cond b (Some drive.1) (first_edge others key)) (first_edge more key)
    by true rest = refl
    by false rest = rest

-- Two lists without an edge for a key have none together.
pub none_append : (drives more : List Drive) (key : Key) → first_edge drives key ≡ None → first_edge more key ≡ None
    → first_edge (drives ++ more) key ≡ None
none_append drives more key one other =
    first_append drives more key ∙ ap (λ o. option_or o (first_edge more key)) one ∙ other

-- ---- keys with edges

-- Where no key is this one, it has no edge.
pub none_zip : {X : Type 0} (f : X → Key) (xs : List X) (edges : List Edge) (key : Key) → ((x : X) → same_key (f x) key ≡ false)
    → first_edge (zip (map f xs) edges) key ≡ None
none_zip f [] edges key differ = refl
none_zip f (x ∷ xs) [] key differ = refl
none_zip f (x ∷ xs) (edge ∷ edges) key differ =
    ap (λ b. cond b (Some edge) (first_edge (zip (map f xs) edges) key)) (differ x) ∙ none_zip f xs edges key differ

pub none_map : {X : Type 0} (f : X → Key) (xs : List X) (edge : Edge) (key : Key) → ((x : X) → same_key (f x) key ≡ false)
    → first_edge (map (λ key. (key, edge)) (map f xs)) key ≡ None
none_map f [] edge key differ = refl
none_map f (x ∷ xs) edge key differ =
    ap (λ b. cond b (Some edge) (first_edge (map (λ key. (key, edge)) (map f xs)) key)) (differ x) ∙ none_map f xs edge key differ

-- the first place that passes a test, counted from 0
abbrev pub place_in : {X : Type 0} → (X → Bool) → List X → Option ℕ
place_in test [] = None
place_in test (x ∷ xs) = cond (test x) (Some 0) (option_map (λ n. suc n) (place_in test xs))

pub place_from : {X : Type 0} (test : X → Bool) (xs : List X) → position_from test 0 xs ≡ place_in test xs
place_from test [] = refl
place_from test (x ∷ xs) = ap (cond (test x) (Some 0))
    (shifted test 1 0 (0 + 1) xs refl
    ∙ mapped_alike (λ n. 1 + n) (λ n. suc n) (λ n. omega arith) (position_from test 0 xs)
    ∙ ap (option_map (λ n. suc n)) (place_from test xs))

pub place_is : {X : Type 0} (test : X → Bool) (xs : List X) → position test xs ≡ place_in test xs
place_is test xs = from_start test xs ∙ place_from test xs

pub place_within : {X : Type 0} (test : X → Bool) (xs : List X) (n : ℕ) → place_in test xs ≡ Some n → n < length xs
place_within test [] n is = absurd cc
place_within test (x ∷ xs) n is = by (test x) (place_in test xs) (λ k. place_within test xs k) is
  where
    by : (b : Bool) (o : Option ℕ) → ((k : ℕ) → o ≡ Some k → k < length xs) → cond b (Some 0) (option_map (λ n. suc n) o) ≡ Some n
        → n < suc (length xs)
    by true o rest e = let zero_is : 0 ≡ n = same_Some 0 n e in omega arith
    by false None rest e = absurd cc
    by false (Some k) rest e =
        let next_is : suc k ≡ n = same_Some (suc k) n e in
        let inside : k < length xs = rest k refl in omega arith

later : {X : Type 0} (x : X) (xs : List X) (o : Option ℕ)
    → option_and_then (slice_get xs) o ≡ option_and_then (slice_get (x ∷ xs)) (option_map (λ n. suc n) o)
later x xs None = refl
later x xs (Some n) = refl

pub zip_edge : {X : Type 0} (f : X → Key) (test : X → Bool) (xs : List X) (edges : List Edge) (key : Key)
    → ((x : X) → same_key (f x) key ≡ test x) → length xs ≤ length edges
    → first_edge (zip (map f xs) edges) key ≡ option_and_then (slice_get edges) (place_in test xs)
zip_edge f test [] edges key same enough = refl
zip_edge f test (x ∷ xs) [] key same enough = absurd (omega arith)
zip_edge f test (x ∷ xs) (edge ∷ edges) key same enough =
    ap (λ b. cond b (Some edge) (first_edge (zip (map f xs) edges) key)) (same x)
    ∙ ap (cond (test x) (Some edge)) (zip_edge f test xs edges key same (omega arith) ∙ later edge edges (place_in test xs))
    ∙ by (test x)
  where
    by : (b : Bool) → cond b (Some edge) (option_and_then (slice_get (edge ∷ edges)) (option_map (λ n. suc n) (place_in test xs)))
        ≡ option_and_then (slice_get (edge ∷ edges)) (cond b (Some 0) (option_map (λ n. suc n) (place_in test xs)))
    by true = refl
    by false = refl

pub map_edge : {X : Type 0} (f : X → Key) (test : X → Bool) (xs : List X) (edge : Edge) (key : Key)
    → ((x : X) → same_key (f x) key ≡ test x)
    → first_edge (map (λ key. (key, edge)) (map f xs)) key ≡ option_map (λ n. edge) (place_in test xs)
map_edge f test [] edge key same = refl
map_edge f test (x ∷ xs) edge key same =
    ap (λ b. cond b (Some edge) (first_edge (map (λ key. (key, edge)) (map f xs)) key)) (same x)
    ∙ ap (cond (test x) (Some edge)) (map_edge f test xs edge key same)
    ∙ by (test x) (place_in test xs)
  where
    by : (b : Bool) (o : Option ℕ) → cond b (Some edge) (option_map (λ n. edge) o)
        ≡ option_map (λ n. edge) (cond b (Some 0) (option_map (λ n. suc n) o))
    by true o = refl
    by false None = refl
    by false (Some n) = refl

-- ---- the keys of bits

names_swap : (a b : Text) → bytes_eq a b ≡ bytes_eq b a
names_swap a b = same_from_decides (bytes_eq a b) (bytes_eq b a) (bytes_eq-Decides a b)
    (λ e. sym ((bytes_eq-Decides b a).0 e), λ e. (bytes_eq-Decides b a).1 (sym e))

pub places_swap : (a b : ℕ) → (a == b) ≡ (b == a)
places_swap a b = same_from_decides (a == b) (b == a) (Decides-eqb a b)
    (λ e. sym ((Decides-eqb b a).0 e), λ e. (Decides-eqb b a).1 (sym e))

pub own_key : (path : Path) (bit other : Bit) → same_key (key_in path other) (key_in path bit) ≡ same_bit bit other
own_key path bit other =
    ap (λ b. b && (bytes_eq other.name bit.name && (other.place == bit.place))) (path_itself path)
    ∙ ap (λ b. b && (other.place == bit.place)) (names_swap other.name bit.name)
    ∙ ap (λ b. bytes_eq bit.name other.name && b) (places_swap other.place bit.place)

pub other_key : (path : Path) (name : Text) (bit : ℕ) (key : Key) → same_path path key.path ≡ false
    → same_key (key_of path name bit) key ≡ false
other_key path name bit key differ = ap (λ b. b && (bytes_eq name key.name && (bit == key.bit))) differ

-- ---- values

-- the value of the first entry, and 0 where there is none
abbrev pub first_value : {X : Type 0} → (X → Option Bool) → List X → Option Bool
first_value value [] = Some false
first_value value (x ∷ others) = value x

module _ (rel : Relation) (read : Reading) {X : Type 0} (value : X → Option Bool) where
  -- There is an edge where there is an entry, and it has the value of the first entry.
  abbrev pub Agrees : List X → Option Edge → Type 0
  Agrees [] found = found ≡ None
  Agrees (x ∷ others) found = (edge : Edge) × (found ≡ Some edge) × rel (value x) (edge_value read edge)

  pub agrees_append : (xs more : List X) (one other : Option Edge) → Agrees xs one → Agrees more other
      → Agrees (xs ++ more) (option_or one other)
  agrees_append [] more one other h k = subst (λ o. Agrees more (option_or o other)) (sym h) k
  agrees_append (x ∷ xs) more one other h k = (h.0, ap (λ o. option_or o other) h.1, h.2)

  pub agrees_value : IsKept rel → HasZero rel read → (xs : List X) (drives : List Drive) (key : Key) → Agrees xs (first_edge drives key)
      → rel (first_value value xs) (edge_value read (given_to drives key))
  agrees_value kept none [] drives key h =
      subst (λ edge. rel (Some false) (edge_value read edge)) (ap (λ o. unwrap_or o zero_edge) (sym h) ∙ given_is drives key)
      (zero_carries rel kept read none)
  agrees_value kept none (x ∷ xs) drives key h =
      subst (λ edge. rel (value x) (edge_value read edge)) (ap (λ o. unwrap_or o zero_edge) (sym h.1) ∙ given_is drives key) h.2

  -- what numbers of bits stand for, where the edge at each number has its value
  pub agrees_place : (make : ℕ → X) (count : ℕ) (edges : List Edge) → count ≤ length edges
      → ((n : ℕ) → n < count → rel (value (make n)) (edge_at read edges n))
      → (o : Option ℕ) → ((n : ℕ) → o ≡ Some n → n < count)
      → Agrees (option_to_list (option_map make o)) (option_and_then (slice_get edges) o)
  agrees_place make count edges enough means None inside = refl
  agrees_place make count edges enough means (Some n) inside =
      let within : n < count = inside n refl in
      let there : slice_get edges n ≡ Some (get_or edges n zero_edge) = slice_get-get_or edges n zero_edge (omega arith) in
      (get_or edges n zero_edge, there, subst (λ o. rel (value (make n)) (option_and_then (edge_value read) o)) there (means n within))

  -- bits with edges
  pub agrees_bits : (make : ℕ → X) (path : Path) (bits : List Bit) (edges : List Edge) (bit : Bit) → length bits ≤ length edges
      → ((n : ℕ) → n < length bits → rel (value (make n)) (edge_at read edges n))
      → Agrees (option_to_list (option_map make (number_in bits bit))) (first_edge (zip (keyed path bits) edges) (key_in path bit))
  agrees_bits make path bits edges bit enough means =
      subst (λ o. Agrees (option_to_list (option_map make o)) (first_edge (zip (keyed path bits) edges) (key_in path bit)))
      (sym (place_is (same_bit bit) bits))
      (subst (Agrees (option_to_list (option_map make (place_in (same_bit bit) bits))))
      (sym (zip_edge (key_in path) (same_bit bit) bits edges (key_in path bit) (own_key path bit) enough))
      (agrees_place make (length bits) edges enough means (place_in (same_bit bit) bits) (place_within (same_bit bit) bits)))

  -- bits that all have one edge
  pub agrees_each : (x : X) (path : Path) (bits : List Bit) (edge : Edge) (bit : Bit) → rel (value x) (edge_value read edge)
      → Agrees (option_to_list (option_map (λ n. x) (number_in bits bit)))
      (first_edge (map (λ key. (key, edge)) (keyed path bits)) (key_in path bit))
  agrees_each x path bits edge bit means =
      subst (λ o. Agrees (option_to_list (option_map (λ n. x) o))
      (first_edge (map (λ key. (key, edge)) (keyed path bits)) (key_in path bit)))
      (sym (place_is (same_bit bit) bits))
      (subst (Agrees (option_to_list (option_map (λ n. x) (place_in (same_bit bit) bits))))
      (sym (map_edge (key_in path) (same_bit bit) bits edge (key_in path bit) (own_key path bit)))
      (by (place_in (same_bit bit) bits)))
    where
      by : (o : Option ℕ) → Agrees (option_to_list (option_map (λ n. x) o)) (option_map (λ n. edge) o)
      by None = refl
      by (Some n) = (edge, refl, means)

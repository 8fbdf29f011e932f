-- The edges that bits are given first, where one more is given.
use Rattle.std.proofs.Common.{◌≡◌, ℕ, suc, Bool, true, false, ◌&&◌, ◌==◌, List, [], ◌∷◌, ◌++◌, Option, None, Some, ap, arith, bytes_eq, cond, map, option_map, refl, slice_get, sym, ◌∙◌, unwrap_or}
use Rattle.std.specs.Option.{option_or}
use Rattle.std.proofs.lemmas.Bool.{and_parts}
use Rattle.std.proofs.lemmas.Bool.Decides.{Decides-eqb}
use Rattle.std.proofs.lemmas.Slice.Eq.{bytes_eq-Decides}
use Rattle.flat_net.specs.declared.edge.Edge.{Edge}
use Rattle.flat_net.specs.Edges.{zero_edge}
use Rattle.vlog_tree.specs.declared.key.Key.{Key}
use Rattle.vlog_tree.specs.Meaning.Instances.{same_path}
use Rattle.vlog_tree.specs.Meaning.Keys.{same_key}
use Rattle.flat_design.specs.Flat.{given_to}
use Rattle.flat_design.specs.Items.{Drive}
use Rattle.flat_design.proofs.DriveLemmas.{first_append, first_edge, place_from, place_in}
use Rattle.flat_design.proofs.DriveLemmas as drive
use Rattle.numbering.proofs.NumberBitLemmas.{paths_decide}
use Rattle.drives.specs.Given.{entered, first_given, given_one}

-- ---- the first edge

first_is : (drives : List Drive) (key : Key) → first_given drives key ≡ first_edge drives key
first_is [] key = refl
first_is (drive ∷ others) key = ap (cond (same_key drive.0 key) (Some drive.1)) (first_is others key)

pub given_is : (drives : List Drive) (key : Key) → unwrap_or (first_given drives key) zero_edge ≡ given_to drives key
given_is drives key = ap (λ edge. unwrap_or edge zero_edge) (first_is drives key) ∙ drive.given_is drives key

-- one drive more
pub last_given : (drives : List Drive) (one : Drive) (key : Key)
    → first_given (drives ++ one ∷ []) key ≡ option_or (first_given drives key) (cond (same_key one.0 key) (Some one.1) None)
last_given drives one key =
    first_is (drives ++ one ∷ []) key ∙ first_append drives (one ∷ []) key
    ∙ ap (λ first. option_or first (cond (same_key one.0 key) (Some one.1) None)) (sym (first_is drives key))

pub or_none : (o : Option Edge) → option_or o None ≡ o
or_none None = refl
or_none (Some edge) = refl

pub or_edge : (o : Option Edge) (edge : Edge) → option_or o (Some edge) ≡ entered o edge
or_edge None edge = refl
or_edge (Some first) edge = refl

pub keys_same : (a b : Key) → same_key a b ≡ true → a ≡ b
keys_same a b same =
    let parts = and_parts (same_path a.path b.path) (bytes_eq a.name b.name && (a.bit == b.bit)) same in
    let inner = and_parts (bytes_eq a.name b.name) (a.bit == b.bit) parts.1 in
    let path : a.path ≡ b.path = (paths_decide a.path b.path).0 parts.0 in
    let name : a.name ≡ b.name = (bytes_eq-Decides a.name b.name).0 inner.0 in
    let bit : a.bit ≡ b.bit = (Decides-eqb a.bit b.bit).0 inner.1 in
    λ j. record { path = path j; name = name j; bit = bit j }

-- ---- one entry of a list

module _ {A : Type 0} (f g : A → Option Edge) (test : A → Bool) (edge : Edge) (apart : (x : A) → test x ≡ false → f x ≡ g x) where
  pub same_map : (xs : List A) → ((j : ℕ) (x : A) → slice_get xs j ≡ Some x → test x ≡ true → f x ≡ g x) → map f xs ≡ map g xs
  same_map [] there = refl
  same_map (x ∷ xs) there =
      λ j. by (test x) refl j ∷ same_map xs (λ i y at. there (suc i) y at) j
    where
      by : (b : Bool) → test x ≡ b → f x ≡ g x
      by true is = there 0 x refl is
      by false is = apart x is

  pub entry_given : (xs : List A) → ((j : ℕ) (x : A) → slice_get xs j ≡ Some x → test x ≡ true → g x ≡ entered (f x) edge)
      → ((i j : ℕ) (x y : A) → slice_get xs i ≡ Some x → slice_get xs j ≡ Some y → test x ≡ true → test y ≡ true → i ≡ j)
      → (place : Option ℕ) → place_in test xs ≡ place → given_one (map f xs) place edge ≡ map g xs
  entry_given [] there once None is = refl
  entry_given [] there once (Some place) is = absurd cc
  entry_given (x ∷ xs) there once place is =
      by (test x) refl (place_in test xs) refl
      (entry_given xs (λ j y at. there (suc j) y at)
      (λ i j y z at to one two. suc_same i j (once (suc i) (suc j) y z at to one two)) (place_in test xs) refl)
    where
      suc_same : (i j : ℕ) → suc i ≡ suc j → i ≡ j
      suc_same i j e = omega (arith, e)

      zero_suc : (i : ℕ) → 0 ≡ suc i → ⊥
      zero_suc i e = omega (arith, e)

      by : (b : Bool) → test x ≡ b → (found : Option ℕ) → place_in test xs ≡ found
          → given_one (map f xs) (place_in test xs) edge ≡ map g xs → given_one (map f (x ∷ xs)) place edge ≡ map g (x ∷ xs)
      by true t found at rest =
          let first : Some 0 ≡ place = sym (ap (λ b. cond b (Some 0) (option_map (λ n. suc n) (place_in test xs))) t) ∙ is in
          ap (λ place. given_one (map f (x ∷ xs)) place edge) (sym first)
          ∙ (λ j. sym (there 0 x refl t) j ∷ same_map xs (λ i y here s. absurd (zero_suc i (once 0 (suc i) x y refl here t s))) j)
      by false t None at rest =
          let first : None ≡ place = sym (λ j. cond (t j) (Some 0) (option_map (λ n. suc n) (at j))) ∙ is in
          ap (λ place. given_one (map f (x ∷ xs)) place edge) (sym first)
          ∙ (λ j. apart x t j ∷ (ap (λ found. given_one (map f xs) found edge) (sym at) ∙ rest) j)
      by false t (Some n) at rest =
          let first : Some (suc n) ≡ place = sym (λ j. cond (t j) (Some 0) (option_map (λ n. suc n) (at j))) ∙ is in
          ap (λ place. given_one (map f (x ∷ xs)) place edge) (sym first)
          ∙ (λ j. apart x t j ∷ (ap (λ found. given_one (map f xs) found edge) (sym at) ∙ rest) j)

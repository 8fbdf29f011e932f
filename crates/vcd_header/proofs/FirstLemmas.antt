-- Which scopes are one, one scope at a time.
use Rattle.std.proofs.Common.{◌≡◌, ℕ, ◌+◌, ◌<◌, ◌≤◌, List, [], ◌∷◌, ◌++◌, Bool, true, false, cond, ◌&&◌, nat_eq, nat_lt, length, map, take, get_or, slice_index, Option, Some, None, IfSome, if◌then◌else◌, arith, refl, subst, sym, ap, ◌∙◌, ◌⊎◌, inl, inr}
use Rattle.std.specs.Option.{option_eq, option_map, unwrap_or}
use Rattle.std.specs.Str.{bytes_eq}
use Rattle.std.proofs.lemmas.Bool.{cases_lt}
use Rattle.std.proofs.lemmas.Bool.Decides.{Decides-eqb, Decides-ltb}
use Rattle.std.proofs.lemmas.List.{get_or-map, get_or-take, length-map, length-take-le, map-append, take_all, take_more}
use Rattle.std.proofs.lemmas.List.Sums.{fails_before_first, passes_at_first}
use Rattle.std.proofs.lemmas.Slice.Eq.{bytes_eq-Decides}
use Rattle.vcd_header.specs.declared.scope.Scope.{Scope}
use Rattle.vcd_header.specs.Declares.{AreNested, IsBelow, first_of, firsts_of, path_in, paths_of, place_by}
use Rattle.vcd_header.specs.Names.{Place, same_place}
use Rattle.vcd_header.specs.Scopes.{Path, same_path}
use Rattle.vcd_header.proofs.DeclareLemmas.{length-paths, parent_below}
use Rattle.vcd_header.proofs.PathLemmas.{both_true, last_parts, number_split, right_longer, same_equal, same_itself}

-- ---- the first of a path

pub first_not_later : (paths : List Path) (n : ℕ) → n < length paths → first_of paths (get_or paths n []) ≤ n
first_not_later paths n within = by (cases_lt n (first_of paths (get_or paths n [])))
  where
    by : (n < first_of paths (get_or paths n [])) ⊎ (first_of paths (get_or paths n []) ≤ n) → first_of paths (get_or paths n []) ≤ n
    by (inr h) = h
    by (inl h) =
        let differ = fails_before_first (same_path (get_or paths n [])) paths n [] h in
        let same = same_itself (get_or paths n []) in
        absurd (cc)

pub first_is_path : (paths : List Path) (path : Path) → first_of paths path < length paths → get_or paths (first_of paths path) [] ≡ path
first_is_path paths path within = sym (same_equal path (get_or paths (first_of paths path) []) (passes_at_first (same_path path) paths [] within))

pub first_at : (paths : List Path) (firsts : List ℕ) (n d : ℕ) → firsts ≡ firsts_of paths → n < length paths → get_or firsts n d ≡ first_of paths (get_or paths n [])
first_at paths firsts n d are within = ap (λ firsts. get_or firsts n d) are ∙ get_or-map (first_of paths) paths n [] d within

pub first_below : (paths : List Path) (firsts : List ℕ) (n d first count : ℕ) → firsts ≡ firsts_of paths → n < length paths → first ≡ get_or firsts n d → count ≡ length paths → first < count
first_below paths firsts n d first count are within is same = omega (arith, first_at paths firsts n d are within, first_not_later paths n within, within, is, same)

-- the number of a path, if one of the first k is that path
abbrev pub seen : List Path → ℕ → Path → Option ℕ
seen paths k path = if nat_lt (first_of paths path) k then Some (first_of paths path) else None

-- a scope that was the first of its path, or none
abbrev pub IsFirst : List Path → Option ℕ → Type 0
IsFirst paths number = IfSome number (λ n. (n < length paths) × (first_of paths (get_or paths n []) ≡ n))

seen_or : (paths : List Path) (k : ℕ) (path : Path) → first_of paths path ≤ k → unwrap_or (seen paths k path) k ≡ first_of paths path
seen_or paths k path not_later = by (nat_lt (first_of paths path) k) refl
  where
    by : (b : Bool) → nat_lt (first_of paths path) k ≡ b → unwrap_or (cond b (Some (first_of paths path)) None) k ≡ first_of paths path
    by true is = refl
    by false is = by_case (cases_lt (first_of paths path) k)
      where
        by_case : (first_of paths path < k) ⊎ (k ≤ first_of paths path) → k ≡ first_of paths path
        by_case (inl h) = let yes_it_is = (Decides-ltb (first_of paths path) k).1 h in absurd (cc)
        by_case (inr h) = omega arith

seen_now : (paths : List Path) (k : ℕ) (path : Path) → first_of paths path ≤ k → seen paths (k + 1) path ≡ Some (first_of paths path)
seen_now paths k path not_later = ap (λ b. cond b (Some (first_of paths path)) None) ((Decides-ltb (first_of paths path) (k + 1)).1 (omega arith))

seen_same : (paths : List Path) (k : ℕ) (path : Path) → (first_of paths path ≡ k → ⊥) → seen paths (k + 1) path ≡ seen paths k path
seen_same paths k path other = ap (λ b. cond b (Some (first_of paths path)) None) (by (cases_lt (first_of paths path) k))
  where
    by : (first_of paths path < k) ⊎ (k ≤ first_of paths path) → nat_lt (first_of paths path) (k + 1) ≡ nat_lt (first_of paths path) k
    by (inl h) = (Decides-ltb (first_of paths path) (k + 1)).1 (omega arith) ∙ sym ((Decides-ltb (first_of paths path) k).1 h)
    by (inr h) = grind arith

-- ---- as far as the first k scopes go

pub record AreEntered (paths : List Path) (k : ℕ) (firsts : List ℕ) (kept : Place → Option ℕ) : Type 0 where
  pub firsts_are : firsts ≡ map (first_of paths) (take k paths)
  pub kept_are : (place : Place) → IsFirst paths place.0 → kept place ≡ seen paths k (path_in paths place.0 ++ place.1.now ∷ [])

place_parts : (left right : Place) → same_place left right ≡ true → (left.0 ≡ right.0) × (left.1.now ≡ right.1.now)
place_parts left right h =
    let parts = both_true (option_eq nat_eq left.0 right.0) (bytes_eq left.1.now right.1.now) h in
    (by left.0 right.0 parts.0, (bytes_eq-Decides left.1.now right.1.now).0 parts.1)
  where
    by : (a b : Option ℕ) → option_eq nat_eq a b ≡ true → a ≡ b
    by None None h = refl
    by None (Some y) h = absurd (cc)
    by (Some x) None h = absurd (cc)
    by (Some x) (Some y) h = ap (λ n. Some n) ((Decides-eqb x y).0 h)

parts_place : (left right : Place) → left.0 ≡ right.0 → left.1.now ≡ right.1.now → same_place left right ≡ true
parts_place left right number name =
    ap (λ number. option_eq nat_eq number right.0 && bytes_eq left.1.now right.1.now) number
    ∙ ap (λ b. b && bytes_eq left.1.now right.1.now) (by right.0)
    ∙ (bytes_eq-Decides left.1.now right.1.now).1 name
  where
    by : (a : Option ℕ) → option_eq nat_eq a a ≡ true
    by None = refl
    by (Some x) = (Decides-eqb x x).1 refl

module _ (scopes : List Scope) where
  -- no scope has the empty path
  pub some_path : (n : ℕ) → AreNested 0 scopes → n < length scopes → same_path [] (get_or (paths_of scopes) n []) ≡ false
  some_path n nested within = by scopes nested within
    where
      by : (scopes : List Scope) → AreNested 0 scopes → n < length scopes → same_path [] (get_or (paths_of scopes) n []) ≡ false
      by [] nested within = absurd (omega arith)
      by (d ∷ scopes) nested within =
          ap (same_path []) (number_split (d ∷ scopes) n d nested within)
          ∙ right_longer (path_in (paths_of (d ∷ scopes)) (get_or (d ∷ scopes) n d).parent) (get_or (d ∷ scopes) n d).name.now

  -- Two that are first are one where they have one path.
  one_first : (left right : Option ℕ) → AreNested 0 scopes → IsFirst (paths_of scopes) left → IsFirst (paths_of scopes) right → path_in (paths_of scopes) left ≡ path_in (paths_of scopes) right → left ≡ right
  one_first None None nested is_left is_right one = refl
  one_first None (Some n) nested is_left is_right one =
      let count = length-paths [] scopes in
      let differ = some_path n nested (omega arith) in
      let same = ap (same_path []) (sym one) in
      absurd (cc)
  one_first (Some n) None nested is_left is_right one =
      let count = length-paths [] scopes in
      let differ = some_path n nested (omega arith) in
      let same = ap (same_path []) one in
      absurd (cc)
  one_first (Some n) (Some m) nested is_left is_right one =
      ap (λ n. Some n) (sym is_left.1 ∙ ap (first_of (paths_of scopes)) one ∙ is_right.1)

  -- the first of the scope that a scope stands in
  parent_first : (k : ℕ) (firsts : List ℕ) (parent : Option ℕ) → k < length scopes → firsts ≡ map (first_of (paths_of scopes)) (take k (paths_of scopes)) → IsBelow k parent
      → IsFirst (paths_of scopes) (option_map (slice_index firsts) parent) × (path_in (paths_of scopes) (option_map (slice_index firsts) parent) ≡ path_in (paths_of scopes) parent)
  parent_first k firsts None within are below = (tt, refl)
  parent_first k firsts (Some q) within are below =
      let paths = paths_of scopes in
      let count : length paths ≡ length scopes = length-paths [] scopes ∙ omega arith in
      let taken = length-take-le k paths (omega arith) in
      let number : get_or firsts q 0 ≡ first_of paths (get_or paths q []) =
      ap (λ firsts. get_or firsts q 0) are ∙ get_or-map (first_of paths) (take k paths) q [] 0 (omega arith) ∙ ap (first_of paths) (get_or-take k paths q [] below) in
      let not_later = first_not_later paths q (omega arith) in
      let one = first_is_path paths (get_or paths q []) (omega arith) in (
        (subst (λ n. n < length paths) (sym number) (omega arith), subst (λ n. first_of paths (get_or paths n []) ≡ n) (sym number) (ap (first_of paths) one)),
        ap (λ n. get_or paths n []) number ∙ one,
      )

  -- one more scope
  pub entered_more : (k : ℕ) (d : Scope) (firsts after : List ℕ) (before now : Place → Option ℕ) → AreNested 0 scopes → k < length scopes → AreEntered (paths_of scopes) k firsts before
      → after ≡ firsts ++ unwrap_or (before (place_by firsts (get_or scopes k d))) (length firsts) ∷ []
      → ((other : Place) → now other ≡ (if same_place (place_by firsts (get_or scopes k d)) other then Some (unwrap_or (before (place_by firsts (get_or scopes k d))) (length firsts)) else before other))
      → AreEntered (paths_of scopes) (k + 1) after now
  entered_more k d firsts after before now nested within entered pushed kept = record {
    firsts_are =
        pushed
        ∙ ap (λ n. firsts ++ n ∷ []) number
        ∙ ap (λ firsts. firsts ++ first_of paths path ∷ []) entered.firsts_are
        ∙ sym (ap (map (first_of paths)) (take_more paths k [] inside) ∙ map-append (first_of paths) (take k paths) (path ∷ []));
    kept_are = λ other is. kept other ∙ by other is (same_place place other) refl;
  }
    where
      paths : List Path
      paths = paths_of scopes

      path : Path
      path = get_or paths k []

      scope : Scope
      scope = get_or scopes k d

      place : Place
      place = place_by firsts scope

      inside : k < length paths
      inside = let count = length-paths [] scopes in omega arith

      first : IsFirst paths place.0 × (path_in paths place.0 ≡ path_in paths scope.parent)
      first = parent_first k firsts scope.parent within entered.firsts_are (subst (λ n. IsBelow n scope.parent) (omega arith) (parent_below 0 scopes k d nested within))

      is_path : path_in paths place.0 ++ scope.name.now ∷ [] ≡ path
      is_path = ap (λ outer. outer ++ scope.name.now ∷ []) first.1 ∙ sym (number_split scopes k d nested within)

      not_later : first_of paths path ≤ k
      not_later = first_not_later paths k inside

      number : unwrap_or (before place) (length firsts) ≡ first_of paths path
      number =
          let count : length firsts ≡ k = ap length entered.firsts_are ∙ length-map (take k paths) (first_of paths) ∙ length-take-le k paths (omega (arith, inside)) in
          ap (unwrap_or (before place)) count
          ∙ ap (λ known. unwrap_or known k) (entered.kept_are place first.0 ∙ ap (seen paths k) is_path)
          ∙ seen_or paths k path not_later

      by : (other : Place) → IsFirst paths other.0 → (b : Bool) → same_place place other ≡ b
          → cond b (Some (unwrap_or (before place) (length firsts))) (before other) ≡ seen paths (k + 1) (path_in paths other.0 ++ other.1.now ∷ [])
      by other is true same =
          let parts = place_parts place other same in
          let one : path_in paths other.0 ++ other.1.now ∷ [] ≡ path =
          sym (ap (λ number. path_in paths number ++ scope.name.now ∷ []) parts.0 ∙ ap (λ name. path_in paths other.0 ++ name ∷ []) parts.1) ∙ is_path in
          ap (λ n. Some n) number ∙ sym (ap (seen paths (k + 1)) one ∙ seen_now paths k path not_later)
      by other is false same =
          entered.kept_are other is ∙ sym (seen_same paths k (path_in paths other.0 ++ other.1.now ∷ []) differ)
        where
          differ : first_of paths (path_in paths other.0 ++ other.1.now ∷ []) ≡ k → ⊥
          differ at =
              let there = first_is_path paths (path_in paths other.0 ++ other.1.now ∷ []) (omega (arith, at, inside)) in
              let parts = last_parts (path_in paths place.0) (path_in paths other.0) scope.name.now other.1.now (is_path ∙ ap (λ n. get_or paths n []) (sym at) ∙ there) in
              let one = parts_place place other (one_first place.0 other.0 nested first.0 is parts.0) parts.1 in
              absurd (cc)

  -- all scopes
  pub entered_all : (k : ℕ) (firsts : List ℕ) (kept : Place → Option ℕ) → length scopes ≤ k → AreEntered (paths_of scopes) k firsts kept → firsts ≡ firsts_of (paths_of scopes)
  entered_all k firsts kept all entered =
      let count = length-paths [] scopes in
      entered.firsts_are ∙ ap (map (first_of (paths_of scopes))) (take_all k (paths_of scopes) (omega arith))

  -- The scope that the next one stands in is among those before it.
  pub first_count : (k : ℕ) (d : Scope) (firsts : List ℕ) (kept : Place → Option ℕ) → AreNested 0 scopes → k < length scopes → AreEntered (paths_of scopes) k firsts kept → IsBelow (length firsts) (get_or scopes k d).parent
  first_count k d firsts kept nested within entered =
      let count = length-paths [] scopes in
      let firsts_count : length firsts ≡ k = ap length entered.firsts_are ∙ length-map (take k (paths_of scopes)) (first_of (paths_of scopes)) ∙ length-take-le k (paths_of scopes) (omega arith) in
      subst (λ n. IsBelow n (get_or scopes k d).parent) (omega arith) (parent_below 0 scopes k d nested within)

pub length-firsts : (paths : List Path) (firsts : List ℕ) → firsts ≡ firsts_of paths → length firsts ≡ length paths
length-firsts paths firsts are = ap length are ∙ length-map paths (first_of paths)

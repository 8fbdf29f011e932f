-- The variables of scopes, one declaration at a time.
use Rattle.std.proofs.Common.{All, arith, ◌≡◌, ℕ, ◌<◌, ◌==◌, suc, List, [], ◌∷◌, ◌++◌, Bool, true, false, cond, length, map, get_or, set, slice_index, Option, Some, None, if◌then◌else◌, refl, subst, sym, ap, ◌∙◌}
use Rattle.std.specs.Global.{Vec}
use Rattle.std.specs.List.{filter}
use Rattle.std.proofs.lemmas.Bool.Decides.{Decides-eqb}
use Rattle.std.proofs.lemmas.List.{get_or-map, get_or-set_other, get_or-set_same, length-map, map-set}
use Rattle.vcd_header.specs.declared.declaration.Declaration.{Declaration}
use Rattle.vcd_header.specs.declared.scope.Scope.{Scope}
use Rattle.vcd_header.specs.Contents.{IsTable, is_at, list_at, stands_at}
use Rattle.vcd_header.specs.Declares.{AreKept, AreNested, Declared, IsBelow, declared_as, declares, first_of, firsts_of, path_in, paths_of}
use Rattle.vcd_header.specs.Matching.{Wanted, source_of, within}
use Rattle.vcd_header.specs.Scopes.{Path, same_path}
use Rattle.vcd_header.proofs.DeclareLemmas.{length-paths}
use Rattle.vcd_header.proofs.FirstLemmas.{first_at, first_below, first_is_path, first_not_later, some_path}
use Rattle.vcd_header.proofs.PathLemmas.{same_equal, same_itself}

abbrev items : Vec Declaration → List Declaration
items list = list.items

-- one more declaration in the list of a number
pub put_at : (lists : List (Vec Declaration)) (number : ℕ) (list now : Vec Declaration) (declaration : Declaration) (other : ℕ) → number < length lists → now.items ≡ (get_or lists number list).items ++ declaration ∷ []
    → list_at (set lists number now) other ≡ (if number == other then list_at lists other ++ declaration ∷ [] else list_at lists other)
put_at lists number list now declaration other within pushed =
    ap (λ lists. get_or lists other []) (map-set items lists number now) ∙ by (number == other) refl
  where
    by : (b : Bool) → (number == other) ≡ b → get_or (set (map items lists) number now.items) other [] ≡ cond b (list_at lists other ++ declaration ∷ []) (list_at lists other)
    by true is =
        let one : number ≡ other = (Decides-eqb number other).0 is in
        ap (λ k. get_or (set (map items lists) number now.items) k []) (sym one)
        ∙ get_or-set_same (map items lists) number now.items [] (subst (λ n. number < n) (sym (length-map lists items)) within)
        ∙ pushed
        ∙ ap (λ list. list ++ declaration ∷ []) (sym (get_or-map items lists number list [] within))
        ∙ ap (λ k. list_at lists k ++ declaration ∷ []) one
    by false is = get_or-set_other (map items lists) number other now.items [] (λ same. let one = (Decides-eqb number other).1 (sym same) in absurd (cc))

-- ---- what stands in a scope

module _ (scopes : List Scope) where
  -- A scope has the first number of another exactly where the two have one path.
  same_first : (scope : Option ℕ) (number : ℕ) → AreNested 0 scopes → IsBelow (length scopes) scope → number < length scopes
      → is_at (firsts_of (paths_of scopes)) (slice_index (firsts_of (paths_of scopes)) number) scope ≡ same_path (path_in (paths_of scopes) scope) (get_or (paths_of scopes) number [])
  same_first None number nested below within = sym (some_path scopes number nested within)
  same_first (Some n) number nested below within =
      ap (λ k. k == get_or (firsts_of paths) number 0) (first_at paths (firsts_of paths) n 0 refl (inside n below))
      ∙ ap (λ k. first_of paths (get_or paths n []) == k) (first_at paths (firsts_of paths) number 0 refl (inside number within))
      ∙ by (same_path (get_or paths n []) (get_or paths number [])) refl
    where
      paths : List Path
      paths = paths_of scopes

      inside : (n : ℕ) → n < length scopes → n < length paths
      inside n within = let count = length-paths [] scopes in omega (arith, count)

      first_path : (n : ℕ) → n < length scopes → get_or paths (first_of paths (get_or paths n [])) [] ≡ get_or paths n []
      first_path n within =
          let not_later = first_not_later paths n (inside n within) in
          first_is_path paths (get_or paths n []) (omega (arith, not_later, inside n within))

      by : (b : Bool) → same_path (get_or paths n []) (get_or paths number []) ≡ b → (first_of paths (get_or paths n []) == first_of paths (get_or paths number [])) ≡ b
      by true is = (Decides-eqb (first_of paths (get_or paths n [])) (first_of paths (get_or paths number []))).1 (ap (first_of paths) (same_equal (get_or paths n []) (get_or paths number []) is))
      by false is = by_case (first_of paths (get_or paths n []) == first_of paths (get_or paths number [])) refl
        where
          by_case : (b : Bool) → (first_of paths (get_or paths n []) == first_of paths (get_or paths number [])) ≡ b → b ≡ false
          by_case false one = refl
          by_case true one =
              let one_number = (Decides-eqb (first_of paths (get_or paths n [])) (first_of paths (get_or paths number []))).0 one in
              let one_path : get_or paths n [] ≡ get_or paths number [] = sym (first_path n below) ∙ ap (λ k. get_or paths k []) one_number ∙ first_path number within in
              let same = ap (same_path (get_or paths n [])) (sym one_path) ∙ same_itself (get_or paths n []) in
              absurd (cc)

  -- The declarations of a first number are the variables that stand directly in its scope.
  own_within : (declarations : List Declaration) (number : ℕ) → AreNested 0 scopes → All (λ declaration. IsBelow (length scopes) declaration.scope) declarations → number < length scopes
      → map (declares (paths_of scopes)) (filter (stands_at (firsts_of (paths_of scopes)) (slice_index (firsts_of (paths_of scopes)) number)) declarations)
      ≡ within (get_or (paths_of scopes) number []) (map (declares (paths_of scopes)) declarations)
  own_within [] number nested below inside = refl
  own_within (first ∷ rest) number nested below inside =
      by (same_path (path_in paths first.scope) path) (same_first first.scope number nested (below 0 first (omega arith)) inside) (own_within rest number nested (λ k d h. below (suc k) d (omega arith)) inside)
    where
      paths : List Path
      paths = paths_of scopes

      path : Path
      path = get_or paths number []

      list : List Declaration
      list = filter (stands_at (firsts_of paths) (slice_index (firsts_of paths) number)) rest

      by : (b : Bool) → is_at (firsts_of paths) (slice_index (firsts_of paths) number) first.scope ≡ b → map (declares paths) list ≡ within path (map (declares paths) rest)
          → map (declares paths) (cond (is_at (firsts_of paths) (slice_index (firsts_of paths) number) first.scope) (first ∷ list) list)
          ≡ cond b (declares paths first ∷ within path (map (declares paths) rest)) (within path (map (declares paths) rest))
      by true is ih = ap (λ b. map (declares paths) (cond b (first ∷ list) list)) is ∙ ap (λ later. declares paths first ∷ later) ih
      by false is ih = ap (λ b. map (declares paths) (cond b (first ∷ list) list)) is ∙ ih

-- the table of what is declared
pub table_of : (scopes : List Scope) (inmost : Option ℕ) (declarations : List Declaration) (now : Declared) (firsts : List ℕ) (lists : List (Vec Declaration)) → declared_as scopes inmost declarations ≡ now
    → AreKept scopes inmost declarations → firsts ≡ firsts_of now.scopes → length lists ≡ length firsts → ((number : ℕ) → list_at lists number ≡ filter (stands_at firsts number) declarations)
    → IsTable now firsts lists
table_of scopes inmost declarations now firsts lists seen kept are count own =
    subst (λ (now : Declared). IsTable now firsts lists) seen (record {
      firsts_are = here;
      count = count ∙ ap length here ∙ length-map (paths_of scopes) (first_of (paths_of scopes));
      own = λ number within.
          ap (map (declares (paths_of scopes))) (own (slice_index firsts number) ∙ ap (λ firsts. filter (stands_at firsts (slice_index firsts number)) declarations) here)
          ∙ own_within scopes declarations number kept.nested kept.within (let number_of = length-paths [] scopes in omega (arith, number_of, within));
    })
  where
    here : firsts ≡ firsts_of (paths_of scopes)
    here = are ∙ ap (λ (now : Declared). firsts_of now.scopes) (sym seen)

-- the source of a bit, by the list of its scope
pub source_own : (all : Declared) (firsts : List ℕ) (lists : List (Vec Declaration)) (number first e : ℕ) (d : Vec Declaration) (own : List Declaration) (bit : Wanted) → IsTable all firsts lists
    → number < length all.scopes → first ≡ get_or firsts number e → own ≡ (get_or lists first d).items
    → source_of (map (declares all.scopes) own) bit ≡ source_of (within (get_or all.scopes number []) all.variables) bit
source_own all firsts lists number first e d own bit table within is listed =
    let same : first ≡ slice_index firsts number = is ∙ first_at all.scopes firsts number e table.firsts_are within ∙ sym (first_at all.scopes firsts number 0 table.firsts_are within) in
    let below = first_below all.scopes firsts number e first (length lists) table.firsts_are within is table.count in
    ap (λ own. source_of (map (declares all.scopes) own) bit) (listed ∙ sym (get_or-map items lists first d [] below) ∙ ap (list_at lists) same)
    ∙ ap (λ variables. source_of variables bit) (table.own number within)

-- Scopes by numbers, and what is declared, one more at a time.
use Rattle.std.proofs.Common.{◌≡◌, ℕ, ◌+◌, ◌<◌, ◌≤◌, ◌==◌, zero, suc, List, [], ◌∷◌, ◌++◌, true, false, length, map, take, get_or, All, Option, Some, None, arith, refl, subst, sym, ap, ◌∙◌}
use Rattle.std.proofs.lemmas.List.{get_or_append_left, get_or_at, length-append, take_at}
use Rattle.vcd_header.specs.declared.declaration.Declaration.{Declaration}
use Rattle.vcd_header.specs.declared.scope.Scope.{Scope}
use Rattle.vcd_header.specs.Declares.{AreKept, AreNested, Declared, IsBelow, declared_as, declares, path_in, paths_from, paths_of, size_among}
use Rattle.vcd_header.specs.declared.fault.VcdFault.TheVariants.{BadCode}
use Rattle.vcd_header.specs.Faults.{fault_if}
use Rattle.vcd_header.specs.Header.{clashes, declaration_fault}
use Rattle.vcd_header.specs.Scopes.{Path, parent}
use Rattle.vcd_header.specs.Tokens.{Tok}
use Rattle.vcd_header.specs.Variables.{declared_by, size_of}
use Rattle.vcd_header.proofs.SizeLemmas.{size_seen}

-- the scope that a scope is, behind these
abbrev pub path_behind : List Path → Scope → Path
path_behind paths scope = path_in paths scope.parent ++ scope.name.now ∷ []

pub length-paths : (paths : List Path) (scopes : List Scope) → length (paths_from paths scopes) ≡ length paths + length scopes
length-paths paths [] = omega arith
length-paths paths (scope ∷ scopes) =
    omega (arith, length-paths (paths ++ path_behind paths scope ∷ []) scopes, length-append paths (path_behind paths scope ∷ []))

-- one more scope
pub paths_more : (paths : List Path) (scopes : List Scope) (scope : Scope) → paths_from paths (scopes ++ scope ∷ []) ≡ paths_from paths scopes ++ path_behind (paths_from paths scopes) scope ∷ []
paths_more paths [] scope = refl
paths_more paths (first ∷ scopes) scope = paths_more (paths ++ path_behind paths first ∷ []) scopes scope

pub path_in_more : (paths more : List Path) (number : Option ℕ) → IsBelow (length paths) number → path_in (paths ++ more) number ≡ path_in paths number
path_in_more paths more None below = refl
path_in_more paths more (Some n) below = get_or_append_left paths more [] n below

-- The scopes that are there stay.
pub paths_stay : (paths : List Path) (scopes : List Scope) (n : ℕ) → n < length paths → get_or (paths_from paths scopes) n [] ≡ get_or paths n []
paths_stay paths [] n below = refl
paths_stay paths (scope ∷ scopes) n below =
    paths_stay (paths ++ path_behind paths scope ∷ []) scopes n (omega (arith, length-append paths (path_behind paths scope ∷ [])))
    ∙ get_or_append_left paths (path_behind paths scope ∷ []) [] n below

path_stays : (paths : List Path) (scopes : List Scope) (number : Option ℕ) → IsBelow (length paths) number → path_in (paths_from paths scopes) number ≡ path_in paths number
path_stays paths scopes None below = refl
path_stays paths scopes (Some n) below = paths_stay paths scopes n below

-- The scope of a number is its name behind the scope that it stands in.
pub path_of_number : (paths : List Path) (count : ℕ) (scopes : List Scope) (k n : ℕ) (d : Scope) → count ≡ length paths → AreNested count scopes → k < length scopes → n ≡ count + k
    → get_or (paths_from paths scopes) n [] ≡ path_in (paths_from paths scopes) (get_or scopes k d).parent ++ (get_or scopes k d).name.now ∷ []
path_of_number paths count [] k n d len nested within at = absurd (omega arith)
path_of_number paths count (scope ∷ scopes) zero n d len nested within at =
    let first = path_behind paths scope in
    let longer = length-append paths (first ∷ []) in
    let place : length paths ≡ n = omega arith in
    paths_stay (paths ++ first ∷ []) scopes n (omega arith)
    ∙ get_or_at paths first [] [] n place
    ∙ ap (λ path. path ++ scope.name.now ∷ []) (sym (path_stays (paths ++ first ∷ []) scopes scope.parent (wider paths (first ∷ []) scope.parent below) ∙ path_in_more paths (first ∷ []) scope.parent below))
  where
    below : IsBelow (length paths) scope.parent
    below = subst (λ c. IsBelow c scope.parent) len nested.0

    wider : (paths more : List Path) (number : Option ℕ) → IsBelow (length paths) number → IsBelow (length (paths ++ more)) number
    wider paths more None h = tt
    wider paths more (Some n) h = omega (arith, length-append paths more)
path_of_number paths count (scope ∷ scopes) (suc k) n d len nested within at =
    let first = path_behind paths scope in
    path_of_number (paths ++ first ∷ []) (suc count) scopes k n d (omega (arith, length-append paths (first ∷ []))) nested.1 (omega arith) (omega arith)

pub parent_below : (count : ℕ) (scopes : List Scope) (k : ℕ) (d : Scope) → AreNested count scopes → k < length scopes → IsBelow (count + k) (get_or scopes k d).parent
parent_below count [] k d nested within = absurd (omega arith)
parent_below count (scope ∷ scopes) zero d nested within = subst (λ n. IsBelow n scope.parent) (omega arith) nested.0
parent_below count (scope ∷ scopes) (suc k) d nested within =
    subst (λ n. IsBelow n (get_or scopes k d).parent) (omega arith) (parent_below (suc count) scopes k d nested.1 (omega arith))

pub below_more : (n m : ℕ) (number : Option ℕ) → IsBelow n number → n ≤ m → IsBelow m number
below_more n m None below le = tt
below_more n m (Some k) below le = omega arith

pub nested_more : (count : ℕ) (scopes : List Scope) (scope : Scope) → AreNested count scopes → IsBelow (count + length scopes) scope.parent → AreNested count (scopes ++ scope ∷ [])
nested_more count [] scope nested below = (subst (λ n. IsBelow n scope.parent) (omega arith) below, tt)
nested_more count (first ∷ scopes) scope nested below =
    (nested.0, nested_more (suc count) scopes scope nested.1 (subst (λ n. IsBelow n scope.parent) (omega arith) below))

-- ---- declarations

pub declares_more : (paths more : List Path) (declarations : List Declaration) → All (λ declaration. IsBelow (length paths) declaration.scope) declarations
    → map (declares (paths ++ more)) declarations ≡ map (declares paths) declarations
declares_more paths more [] all = refl
declares_more paths more (first ∷ rest) all =
    ap (λ path. record { path = path; name = first.name.now; select = first.select; size = first.size; code = first.code.now } ∷ map (declares (paths ++ more)) rest) (path_in_more paths more first.scope (all 0 first (omega arith)))
    ∙ ap (λ later. declares paths first ∷ later) (declares_more paths more rest (λ k d h. all (suc k) d (omega arith)))

-- ---- what is declared

parent_of : (path : Path) (name : List ℕ) → parent (path ++ name ∷ []) ≡ path
parent_of path name = ap (λ n. take n (path ++ name ∷ [])) (omega (arith, length-append path (name ∷ []))) ∙ take_at path (name ∷ []) (length path) refl

last_some : (path : Path) (name : List ℕ) → (length (path ++ name ∷ []) == 0) ≡ false
last_some path name = let n = length-append path (name ∷ []) in grind arith

-- A scope that is open has a path.
top_some : (scopes : List Scope) (number : ℕ) (d : Scope) → AreNested 0 scopes → number < length scopes → (length (path_in (paths_of scopes) (Some number)) == 0) ≡ false
top_some scopes number d nested within =
    ap (λ path. length path == 0) (path_of_number [] 0 scopes number number d refl nested within (omega arith))
    ∙ last_some (path_in (paths_of scopes) (get_or scopes number d).parent) (get_or scopes number d).name.now

pub open_some : (scopes : List Scope) (inmost : Option ℕ) (number : ℕ) (declarations : List Declaration) (now : Declared) → declared_as scopes inmost declarations ≡ now → inmost ≡ Some number
    → IsBelow (length scopes) inmost → AreNested 0 scopes → false ≡ (length now.path == 0)
open_some scopes inmost number declarations now seen is below nested =
    sym (ap (λ (now : Declared). length now.path == 0) (sym seen)
    ∙ ap (λ inmost. length (path_in (paths_of scopes) inmost) == 0) is
    ∙ by scopes nested (subst (IsBelow (length scopes)) is below))
  where
    by : (scopes : List Scope) → AreNested 0 scopes → number < length scopes → (length (path_in (paths_of scopes) (Some number)) == 0) ≡ false
    by [] nested within = absurd (omega arith)
    by (scope ∷ scopes) nested within = top_some (scope ∷ scopes) number scope nested within

pub open_none : (scopes : List Scope) (inmost : Option ℕ) (declarations : List Declaration) (now : Declared) → declared_as scopes inmost declarations ≡ now → inmost ≡ None → true ≡ (length now.path == 0)
open_none scopes inmost declarations now seen is =
    sym (ap (λ (now : Declared). length now.path == 0) (sym seen) ∙ ap (λ inmost. length (path_in (paths_of scopes) inmost) == 0) is)

pub closed_scope : (scopes : List Scope) (number : ℕ) (d : Scope) → AreNested 0 scopes → number < length scopes
    → path_in (paths_of scopes) (get_or scopes number d).parent ≡ parent (path_in (paths_of scopes) (Some number))
closed_scope scopes number d nested within =
    sym (ap parent (path_of_number [] 0 scopes number number d refl nested within (omega arith))
    ∙ parent_of (path_in (paths_of scopes) (get_or scopes number d).parent) (get_or scopes number d).name.now)

pub opened_scope : (scopes : List Scope) (scope : Scope) (declarations : List Declaration) (number : ℕ) → number ≡ length scopes
    → All (λ declaration. IsBelow (length scopes) declaration.scope) declarations
    → declared_as (scopes ++ scope ∷ []) (Some number) declarations
    ≡ record { path = path_behind (paths_of scopes) scope; scopes = paths_of scopes ++ path_behind (paths_of scopes) scope ∷ []; variables = map (declares (paths_of scopes)) declarations }
opened_scope scopes scope declarations number at all =
    let paths = paths_of scopes in
    let path = path_behind paths scope in
    let place : length paths ≡ number = omega (arith, length-paths [] scopes) in
    let count : length scopes ≡ length paths = omega (arith, length-paths [] scopes) in
    let kept : All (λ declaration. IsBelow (length paths) declaration.scope) declarations = subst (λ n. All (λ declaration. IsBelow n declaration.scope) declarations) count all in
    ap (λ paths. record { path = path_in paths (Some number); scopes = paths; variables = map (declares paths) declarations }) (paths_more [] scopes scope)
    ∙ ap (λ now. record { path = now; scopes = paths ++ path ∷ []; variables = map (declares (paths ++ path ∷ [])) declarations }) (get_or_at paths path [] [] number place)
    ∙ ap (λ variables. record { path = path; scopes = paths ++ path ∷ []; variables = variables }) (declares_more paths (path ∷ []) declarations kept)

pub closing : (scopes : List Scope) (inmost : Option ℕ) (number : ℕ) (d : Scope) (declarations : List Declaration) (now : Declared) → declared_as scopes inmost declarations ≡ now → inmost ≡ Some number
    → IsBelow (length scopes) inmost → AreNested 0 scopes
    → declared_as scopes (get_or scopes number d).parent declarations ≡ record now { path = parent now.path }
closing scopes inmost number d declarations now seen is below nested =
    let within : number < length scopes = subst (IsBelow (length scopes)) is below in
    let kept : (path : Path) → record { path = path; scopes = paths_of scopes; variables = map (declares (paths_of scopes)) declarations } ≡ record now { path = path } = λ path. ap (λ (now : Declared). record now { path = path }) seen in
    ap (λ path. record { path = path; scopes = paths_of scopes; variables = map (declares (paths_of scopes)) declarations }) (closed_scope scopes number d nested within)
    ∙ ap (λ inmost. record { path = parent (path_in (paths_of scopes) inmost); scopes = paths_of scopes; variables = map (declares (paths_of scopes)) declarations }) (sym is)
    ∙ ap (λ (now : Declared). record now { path = parent now.path }) seen

pub parent_inside : (scopes : List Scope) (inmost : Option ℕ) (number : ℕ) (d : Scope) → inmost ≡ Some number → IsBelow (length scopes) inmost → AreNested 0 scopes
    → IsBelow (length scopes) (get_or scopes number d).parent
parent_inside scopes inmost number d is below nested =
    let within : number < length scopes = subst (IsBelow (length scopes)) is below in
    below_more (0 + number) (length scopes) (get_or scopes number d).parent (parent_below 0 scopes number d nested within) (omega arith)

pub opening : (scopes longer : List Scope) (inmost : Option ℕ) (scope : Scope) (name : List ℕ) (declarations : List Declaration) (number : ℕ) (now : Declared)
    → declared_as scopes inmost declarations ≡ now → longer ≡ scopes ++ scope ∷ [] → scope.parent ≡ inmost → scope.name.now ≡ name → number ≡ length scopes
    → All (λ declaration. IsBelow (length scopes) declaration.scope) declarations
    → declared_as longer (Some number) declarations ≡ record now { path = now.path ++ name ∷ []; scopes = now.scopes ++ (now.path ++ name ∷ []) ∷ [] }
opening scopes longer inmost scope name declarations number now seen pushed within named at all =
    ap (λ scopes. declared_as scopes (Some number) declarations) pushed
    ∙ opened_scope scopes scope declarations number at all
    ∙ ap (λ path. record { path = path; scopes = paths_of scopes ++ path ∷ []; variables = map (declares (paths_of scopes)) declarations })
    (ap (λ inmost. path_in (paths_of scopes) inmost ++ scope.name.now ∷ []) within ∙ ap (λ name. path_in (paths_of scopes) inmost ++ name ∷ []) named)
    ∙ ap (λ (now : Declared). record now { path = now.path ++ name ∷ []; scopes = now.scopes ++ (now.path ++ name ∷ []) ∷ [] }) seen

pub kept_opening : (scopes longer : List Scope) (inmost : Option ℕ) (scope : Scope) (declarations : List Declaration) (number : ℕ)
    → longer ≡ scopes ++ scope ∷ [] → scope.parent ≡ inmost → number ≡ length scopes → AreKept scopes inmost declarations → AreKept longer (Some number) declarations
kept_opening scopes longer inmost scope declarations number pushed within at kept =
    let len : length longer ≡ length scopes + 1 = ap length pushed ∙ length-append scopes (scope ∷ []) in
    let below : IsBelow (0 + length scopes) scope.parent = subst (λ n. IsBelow n scope.parent) (omega arith) (subst (IsBelow (length scopes)) (sym within) kept.inmost_below) in
    record {
      inmost_below = omega arith;
      nested = subst (AreNested 0) (sym pushed) (nested_more 0 scopes scope kept.nested below);
      within = λ k d h. below_more (length scopes) (length longer) (get_or declarations k d).scope (kept.within k d h) (omega arith);
    }

-- the fault of what a `$var` declares, by the declaration that was read of it
pub declared_fault : (scopes : List Scope) (inmost : Option ℕ) (declarations : List Declaration) (now : Declared) (declaration : Declaration) (at : ℕ) (tokens : List Tok)
    → declared_as scopes inmost declarations ≡ now
    → ((paths : List Path) → Some (declares paths declaration) ≡ declared_by (path_in paths inmost) tokens)
    → declaration_fault now.variables at (declared_by now.path tokens) ≡ fault_if (clashes (size_among declarations declaration.code.now) declaration.size) (BadCode at)
declared_fault scopes inmost declarations now declaration at tokens seen read =
    ap (λ (now : Declared). declaration_fault now.variables at (declared_by now.path tokens)) (sym seen)
    ∙ ap (declaration_fault (map (declares (paths_of scopes)) declarations) at) (sym (read (paths_of scopes)))
    ∙ ap (λ known. fault_if (clashes known declaration.size) (BadCode at)) (size_seen (paths_of scopes) declarations declaration.code.now)

-- There are as many scopes as are kept.
pub seen_count : (scopes : List Scope) (inmost : Option ℕ) (declarations : List Declaration) (now : Declared) → declared_as scopes inmost declarations ≡ now → length scopes ≡ length now.scopes
seen_count scopes inmost declarations now seen =
    omega (arith, length-paths [] scopes, ap (λ (now : Declared). length now.scopes) seen)

-- the size of a code, as it is kept
pub seen_size : (scopes : List Scope) (inmost : Option ℕ) (declarations : List Declaration) (now : Declared) (code : List ℕ) → declared_as scopes inmost declarations ≡ now
    → size_among declarations code ≡ size_of now.variables code
seen_size scopes inmost declarations now code seen =
    sym (size_seen (paths_of scopes) declarations code) ∙ ap (λ (now : Declared). size_of now.variables code) seen

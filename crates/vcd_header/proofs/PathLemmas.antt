-- Paths, name by name from the innermost on.
use Rattle.std.proofs.Common.{◌≡◌, ℕ, ◌+◌, ◌<◌, List, [], ◌∷◌, ◌++◌, Bool, true, false, ◌&&◌, ◌==◌, length, take, reverse, get_or, Option, Some, None, if◌then◌else◌, arith, refl, subst, sym, ap, ◌∙◌}
use Rattle.std.specs.Str.{bytes_eq}
use denote.Ref.{Bor}
use Rattle.std.proofs.lemmas.List.{append_assoc, append-nil, length-map, length-reverse, length-take-le, map-append, reverse-append, take_more}
use Rattle.std.proofs.lemmas.Slice.Eq.{bytes_eq-Decides}
use Rattle.vcd_header.specs.declared.scope.Scope.{Scope}
use Rattle.vcd_header.specs.Declares.{AreNested, IsBelow, path_in, paths_of, texts}
use Rattle.vcd_header.specs.Matching.{within}
use Rattle.vcd_header.specs.Scopes.{Path, dotted, same_path}
use Rattle.vcd_header.proofs.DeclareLemmas.{parent_below, parent_inside, path_of_number}

pub same_itself : (path : Path) → same_path path path ≡ true
same_itself [] = refl
same_itself (name ∷ path) = rw ((bytes_eq-Decides name name).1 refl, same_itself path) refl

and_false : (b : Bool) → (b && false) ≡ false
and_false true = refl
and_false false = refl

and_true : (b : Bool) → (b && true) ≡ b
and_true true = refl
and_true false = refl

and_assoc : (a b c : Bool) → (a && (b && c)) ≡ ((a && b) && c)
and_assoc true b c = refl
and_assoc false b c = refl

pub left_longer : (path : Path) (name : List ℕ) → same_path (path ++ name ∷ []) [] ≡ false
left_longer [] name = refl
left_longer (first ∷ path) name = refl

pub right_longer : (path : Path) (name : List ℕ) → same_path [] (path ++ name ∷ []) ≡ false
right_longer [] name = refl
right_longer (first ∷ path) name = refl

pub same_last : (left right : Path) (a b : List ℕ) → same_path (left ++ a ∷ []) (right ++ b ∷ []) ≡ (same_path left right && bytes_eq a b)
same_last [] [] a b = and_true (bytes_eq a b)
same_last [] (y ∷ right) a b = ap (λ t. bytes_eq a y && t) (right_longer right b) ∙ and_false (bytes_eq a y)
same_last (x ∷ left) [] a b = ap (λ t. bytes_eq x b && t) (left_longer left a) ∙ and_false (bytes_eq x b)
same_last (x ∷ left) (y ∷ right) a b = ap (λ t. bytes_eq x y && t) (same_last left right a b) ∙ and_assoc (bytes_eq x y) (same_path left right) (bytes_eq a b)

pub both_true : (a b : Bool) → (a && b) ≡ true → (a ≡ true) × (b ≡ true)
both_true true b h = (refl, h)
both_true false b h = absurd (cc)

pub same_equal : (left right : Path) → same_path left right ≡ true → left ≡ right
same_equal [] [] h = refl
same_equal [] (y ∷ right) h = absurd (cc)
same_equal (x ∷ left) [] h = absurd (cc)
same_equal (x ∷ left) (y ∷ right) h =
    let parts = both_true (bytes_eq x y) (same_path left right) h in
    ap (λ name. name ∷ left) ((bytes_eq-Decides x y).0 parts.0) ∙ ap (λ rest. y ∷ rest) (same_equal left right parts.1)

pub last_parts : (left right : Path) (a b : List ℕ) → left ++ a ∷ [] ≡ right ++ b ∷ [] → (left ≡ right) × (a ≡ b)
last_parts left right a b one =
    let same = sym (same_last left right a b) ∙ ap (λ path. same_path path (right ++ b ∷ [])) one ∙ same_itself (right ++ b ∷ []) in
    let parts = both_true (same_path left right) (bytes_eq a b) same in
    (same_equal left right parts.0, (bytes_eq-Decides a b).0 parts.1)

-- ---- scopes by numbers

-- how far down a number can go
abbrev pub height : Option ℕ → ℕ
height None = 0
height (Some n) = n + 1

pub number_split : (scopes : List Scope) (n : ℕ) (d : Scope) → AreNested 0 scopes → n < length scopes
    → path_in (paths_of scopes) (Some n) ≡ path_in (paths_of scopes) (get_or scopes n d).parent ++ (get_or scopes n d).name.now ∷ []
number_split scopes n d nested within = path_of_number [] 0 scopes n n d refl nested within (omega arith)

pub lower : (scopes : List Scope) (left : Option ℕ) (a : ℕ) (d : Scope) → AreNested 0 scopes → IsBelow (length scopes) left → left ≡ Some a → height (get_or scopes a d).parent < height left
lower scopes left a d nested below is =
    let within : a < length scopes = subst (IsBelow (length scopes)) is below in
    subst (λ left. height (get_or scopes a d).parent < height left) (sym is) (by (get_or scopes a d).parent (parent_below 0 scopes a d nested within))
  where
    by : (number : Option ℕ) → IsBelow (0 + a) number → height number < a + 1
    by None h = omega arith
    by (Some n) h = omega arith

pub parent_kept : (scopes : List Scope) (left : Option ℕ) (a : ℕ) (d : Scope) → AreNested 0 scopes → IsBelow (length scopes) left → left ≡ Some a → IsBelow (length scopes) (get_or scopes a d).parent
parent_kept scopes left a d nested below is = parent_inside scopes left a d is below nested

-- ---- names, from the innermost outwards

pub names_more : (scopes : List Scope) (next : Option ℕ) (n : ℕ) (d : Scope) (before after : List (Bor (List ℕ))) (whole : Path) → AreNested 0 scopes → IsBelow (length scopes) next → next ≡ Some n
    → after ≡ before ++ (get_or scopes n d).name ∷ [] → path_in (paths_of scopes) next ++ reverse (texts before) ≡ whole
    → path_in (paths_of scopes) (get_or scopes n d).parent ++ reverse (texts after) ≡ whole
names_more scopes next n d before after whole nested below is pushed same =
    let name = (get_or scopes n d).name.now in
    let outer = path_in (paths_of scopes) (get_or scopes n d).parent in
    let within : n < length scopes = subst (IsBelow (length scopes)) is below in
    ap (λ (names : List (Bor (List ℕ))). outer ++ reverse (texts names)) pushed
    ∙ ap (λ names. outer ++ reverse names) (map-append (λ (name : Bor (List ℕ)). name.now) before ((get_or scopes n d).name ∷ []))
    ∙ ap (λ names. outer ++ names) (reverse-append (texts before) (name ∷ []))
    ∙ sym (append_assoc outer (name ∷ []) (reverse (texts before)))
    ∙ ap (λ path. path ++ reverse (texts before)) (sym (ap (path_in (paths_of scopes)) is ∙ number_split scopes n d nested within))
    ∙ same

dotted_first : (name : List ℕ) (rest : Path) (last : Bool) → last ≡ (length rest == 0) → dotted (name ∷ rest) ≡ (name ++ (if last then [] else 46 ∷ [])) ++ dotted rest
dotted_first name [] last is = rw is (sym (append-nil (name ++ []) ∙ append-nil name))
dotted_first name (next ∷ rest) last is =
    let more : (length (next ∷ rest) == 0) ≡ false = grind arith in
    sym (ap (λ last. (name ++ (if last then [] else 46 ∷ [])) ++ dotted (next ∷ rest)) (is ∙ more) ∙ append_assoc name (46 ∷ []) (dotted (next ∷ rest)))

pub dotted_more : (names : List (Bor (List ℕ))) (left : ℕ) (d : Bor (List ℕ)) (text before : List ℕ) (whole : List ℕ) → left < length names
    → text ≡ before ++ ((get_or names left d).now ++ (if left == 0 then [] else 46 ∷ [])) → before ++ dotted (reverse (texts (take (left + 1) names))) ≡ whole
    → text ++ dotted (reverse (texts (take left names))) ≡ whole
dotted_more names left d text before whole within put same =
    let name = get_or names left d in
    let rest = reverse (texts (take left names)) in
    let part = name.now ++ (if left == 0 then [] else 46 ∷ []) in
    let len : length rest ≡ left = length-reverse (texts (take left names)) ∙ length-map (take left names) (λ (name : Bor (List ℕ)). name.now) ∙ length-take-le left names (omega arith) in
    let front : reverse (texts (take (left + 1) names)) ≡ name.now ∷ rest =
    ap (λ (names : List (Bor (List ℕ))). reverse (texts names)) (take_more names left d within)
    ∙ ap reverse (map-append (λ (name : Bor (List ℕ)). name.now) (take left names) (name ∷ []))
    ∙ reverse-append (texts (take left names)) (name.now ∷ []) in
    ap (λ text. text ++ dotted rest) put
    ∙ append_assoc before part (dotted rest)
    ∙ ap (λ text. before ++ text) (sym (ap dotted front ∙ dotted_first name.now rest (left == 0) (ap (λ n. n == 0) (sym len))))
    ∙ same

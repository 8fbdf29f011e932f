-- A text is cut at its last `=`, which is 61, and what a reset is given by tells it.
use Rattle.std.proofs.Common.{◌≡◌, ◌≢◌, ℕ, ◌+◌, ◌<◌, Bool, true, false, List, [], ◌∷◌, ◌++◌, Option, None, Some, length, take, drop, get_or, ◌==◌, arith, sym, refl, ap, subst, ◌∙◌, codes, length-append, suc, take-append-drop}
use Rattle.std.specs.Option.{option_map}
use Rattle.std.specs.Str.{NoCharPasses}
use Rattle.std.specs.Str.Pattern.{RFindsChar}
use Rattle.std.proofs.lemmas.Str.Pattern.{NoCharPasses-char, drop_at_char}
use Rattle.bm_words.specs.Options.{level, reset_text}

abbrev pub LacksEquals : List ℕ → Type 0
LacksEquals xs = (i : ℕ) → i < length xs → get_or xs i 0 ≢ 61

pub has_equals : (name rest : List ℕ) → LacksEquals (name ++ (61 ∷ rest)) → ⊥
has_equals [] rest lacks = lacks 0 (omega arith) refl
has_equals (n ∷ name) rest lacks = has_equals name rest (λ i within. lacks (suc i) (omega arith))

pub last_cut : (text front back : List ℕ) (i j : ℕ) → RFindsChar 61 text (Some (i, j)) → front ≡ take i text
    → back ≡ drop j text → (text ≡ front ++ (61 ∷ back)) × LacksEquals back
last_cut text front back i j found p q =
    let behind : drop i text ≡ 61 ∷ drop j text = drop_at_char 61 text i j found.1 (omega arith) in
    let whole : text ≡ take i text ++ (61 ∷ drop j text) =
    sym (take-append-drop i text) ∙ ap (λ (xs : List ℕ). take i text ++ xs) behind in
    let lacks : LacksEquals (drop j text) =
    λ k within. NoCharPasses-char 61 (drop j text) k found.0 (omega arith) within in (
      whole ∙ ap (λ (xs : List ℕ). xs ++ (61 ∷ drop j text)) (sym p) ∙ ap (λ (xs : List ℕ). front ++ (61 ∷ xs)) (sym q),
      subst LacksEquals (sym q) lacks,
    )

-- a short text, with `=` in front of its one digit
no_room : (front back : List ℕ) (digit : ℕ) → digit ≢ 61 → front ++ (61 ∷ back) ≡ digit ∷ [] → ⊥
no_room [] back digit other same = other (cc)
no_room (f ∷ []) back digit other same = cc
no_room (f ∷ g ∷ front) back digit other same = cc

pub one_cut : (front back name : List ℕ) (digit : ℕ) → digit ≢ 61 → LacksEquals back
    → front ++ (61 ∷ back) ≡ name ++ (61 ∷ digit ∷ []) → back ≡ digit ∷ []
one_cut [] back [] digit other lacks same = cc
one_cut [] back (n ∷ name) digit other lacks same =
    let rest : back ≡ name ++ (61 ∷ digit ∷ []) = cc in absurd (has_equals name (digit ∷ []) (subst LacksEquals rest lacks))
one_cut (f ∷ front) back [] digit other lacks same =
    let rest : front ++ (61 ∷ back) ≡ digit ∷ [] = cc in absurd (no_room front back digit other rest)
one_cut (f ∷ front) back (n ∷ name) digit other lacks same = one_cut front back name digit other lacks (cc)

pub cut_gives : (text front back : List ℕ) (reset : List ℕ × Bool) → text ≡ front ++ (61 ∷ back) → LacksEquals back
    → text ≡ reset_text reset → back ≡ level reset.1
cut_gives text front back (name, false) cut lacks same =
    let other : 48 ≢ 61 = omega arith in one_cut front back name 48 other lacks (sym cut ∙ same)
cut_gives text front back (name, true) cut lacks same =
    let other : 49 ≢ 61 = omega arith in one_cut front back name 49 other lacks (sym cut ∙ same)

pub cut_needed : (text : List ℕ) (reset : List ℕ × Bool) → NoCharPasses (λ d. d == 61) text → text ≡ reset_text reset → ⊥
cut_needed text reset none same =
    let lacks : LacksEquals text = λ k within. NoCharPasses-char 61 text k none (omega arith) within in
    has_equals reset.0 (level reset.1) (subst LacksEquals same lacks)

same_ends : (a b : List ℕ) (x y : Bool) → length a ≡ length b
    → a ++ (codes "=" ++ level x) ≡ b ++ (codes "=" ++ level y) → (a ≡ b) × (x ≡ y)
same_ends [] [] true true long same = (refl, refl)
same_ends [] [] false false long same = (refl, refl)
same_ends [] [] true false long same =
    let digits : ◌≡◌ {A = ℕ} 49 48 = ap (λ (xs : List ℕ). get_or xs 1 0) same in absurd (omega arith)
same_ends [] [] false true long same =
    let digits : ◌≡◌ {A = ℕ} 48 49 = ap (λ (xs : List ℕ). get_or xs 1 0) same in absurd (omega arith)
same_ends [] (b ∷ bs) x y long same = absurd (omega arith)
same_ends (a ∷ as_) [] x y long same = absurd (omega arith)
same_ends (a ∷ as_) (b ∷ bs) x y long same =
    let rest = same_ends as_ bs x y (omega arith) (cc) in (cc, rest.1)

long_level : (x : Bool) → length (codes "=" ++ level x) ≡ 2
long_level true = refl
long_level false = refl

pub one_text : (a b : List ℕ × Bool) → reset_text a ≡ reset_text b → a ≡ b
one_text (a, x) (b, y) same =
    let left : length (a ++ (codes "=" ++ level x)) ≡ length a + 2 =
    length-append a (codes "=" ++ level x) ∙ ap (λ (n : ℕ). length a + n) (long_level x) in
    let right : length (b ++ (codes "=" ++ level y)) ≡ length b + 2 =
    length-append b (codes "=" ++ level y) ∙ ap (λ (n : ℕ). length b + n) (long_level y) in
    let both : length (a ++ (codes "=" ++ level x)) ≡ length (b ++ (codes "=" ++ level y)) = ap length same in
    let parts = same_ends a b x y (omega arith) same in
    λ i. (parts.0 i, parts.1 i)

pub one_reset : (a b : Option (List ℕ × Bool)) → option_map reset_text a ≡ option_map reset_text b → a ≡ b
one_reset None None same = refl
one_reset (Some a) (Some b) same = ap (λ (x : List ℕ × Bool). Some x) (one_text a b (cc))
one_reset None (Some b) same = cc
one_reset (Some a) None same = cc

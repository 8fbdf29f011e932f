-- The options that may be missing have different words, so at each place the first word decides.
use Rattle.std.proofs.Common.{◌≡◌, ◌≢◌, ℕ, List, [], ◌∷◌, ◌++◌, Option, None, Some, IfNone, get_or, arith, ap, sym, refl, ◌∙◌, codes}
use Rattle.bm_words.specs.Options.{further_options, option_words}

-- the words don't begin with the option
abbrev pub LacksOption : List ℕ → List (List ℕ) → Type 0
LacksOption option words = (value : List ℕ) (rest : List (List ℕ)) → words ≢ option ∷ value ∷ rest

pub one_split : (option : List ℕ) (x y : Option (List ℕ)) (u v : List (List ℕ))
    → option_words option x ++ u ≡ option_words option y ++ v → IfNone x (LacksOption option u) → LacksOption option v
    → (x ≡ y) × (u ≡ v)
one_split option None None u v same p q = (refl, same)
one_split option (Some a) (Some b) u v same p q = (cc, cc)
one_split option None (Some b) u v same p q = absurd (p b v same)
one_split option (Some a) None u v same p q = absurd (q a u (sym same))

pub last_split : (option : List ℕ) (x y : Option (List ℕ)) (u : List (List ℕ))
    → option_words option x ++ u ≡ option_words option y → IfNone x (LacksOption option u) → u ≡ []
last_split option None None u same p = same
last_split option (Some a) (Some b) u same p = cc
last_split option None (Some b) u same p = absurd (p b [] same)
last_split option (Some a) None u same p = cc

-- what is in front of the end
pub one_end : (option : List ℕ) (x y : Option (List ℕ)) → option_words option x ≡ option_words option y → x ≡ y
one_end option None None same = refl
one_end option (Some a) (Some b) same = cc
one_end option None (Some b) same = cc
one_end option (Some a) None same = cc

always : (x : Option (List ℕ)) (P : Type 0) → P → IfNone x P
always None P p = p
always (Some x) P p = tt

-- a byte of the first word
abbrev letter : ℕ → List (List ℕ) → ℕ
letter i [] = 0
letter i (word ∷ words) = get_or word i 0

pub not_reset : (cycles scope : Option (List ℕ)) → LacksOption (codes "--reset")
    (option_words (codes "--reset-cycles") cycles ++ option_words (codes "--scope") scope)
not_reset None None value rest same = cc
not_reset None (Some scope) value rest same =
    let letters : ◌≡◌ {A = ℕ} 115 114 = ap (letter 2) same in omega arith
not_reset (Some cycles) scope value rest same =
    let letters : ◌≡◌ {A = ℕ} 45 0 = ap (letter 7) same in omega arith

pub not_cycles : (scope : Option (List ℕ)) → LacksOption (codes "--reset-cycles") (option_words (codes "--scope") scope)
not_cycles None value rest same = cc
not_cycles (Some scope) value rest same =
    let letters : ◌≡◌ {A = ℕ} 115 114 = ap (letter 2) same in omega arith

pub one_further : (r n s r' n' s' : Option (List ℕ)) → further_options r n s ≡ further_options r' n' s'
    → (r ≡ r') × (n ≡ n') × (s ≡ s')
one_further r n s r' n' s' same =
    let first = one_split (codes "--reset") r r' _ _ same (always r _ (not_reset n s)) (not_reset n' s') in
    let second = one_split (codes "--reset-cycles") n n' _ _ first.1 (always n _ (not_cycles s)) (not_cycles s') in
    (first.0, second.0, one_end (codes "--scope") s s' second.1)

-- Where the options are taken in their order, nothing is left of words that are the options.
pub nothing_left : (words after_reset after_cycles rest : List (List ℕ)) (r n s r' n' s' : Option (List ℕ))
    → words ≡ option_words (codes "--reset") r ++ after_reset → IfNone r (LacksOption (codes "--reset") after_reset)
    → after_reset ≡ option_words (codes "--reset-cycles") n ++ after_cycles
    → IfNone n (LacksOption (codes "--reset-cycles") after_cycles)
    → after_cycles ≡ option_words (codes "--scope") s ++ rest → IfNone s (LacksOption (codes "--scope") rest)
    → words ≡ further_options r' n' s' → rest ≡ []
nothing_left words after_reset after_cycles rest r n s r' n' s' p1 a1 p2 a2 p3 a3 same =
    let first = one_split (codes "--reset") r r' _ _ (sym p1 ∙ same) a1 (not_reset n' s') in
    let second = one_split (codes "--reset-cycles") n n' _ _ (sym p2 ∙ first.1) a2 (not_cycles s') in
    last_split (codes "--scope") s s' rest (sym p3 ∙ second.1) a3

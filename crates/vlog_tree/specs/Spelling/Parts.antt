-- What the productions of the grammar are made of.
use Rattle.std.specs.Prelude.{◌≡◌, ◌⊎◌, ◌≤◌, ℕ, ◌+◌, ◌-◌, ◌*◌, List, [], ◌∷◌, ◌++◌, codes, Option, Some, None, if◌then◌else◌}
use Rattle.std.specs.Char.{is_ascii_digit}
use Rattle.std.specs.List.{filter, fold}
use Rattle.bm_base.specs.declared.range.Range.{Range}
use Rattle.vlog_tokens.specs.Toks.{Tok}
use Rattle.vlog_tokens.specs.declared.token.TokenKind.{TokenKind}
use Rattle.vlog_tokens.specs.declared.token.TokenKind.TheVariants.{Word, Escaped, Decimal, Mark}
use Rattle.vlog_words.specs.Words.{IsReserved, is_reserved_text}

-- What spells what: which lists of tokens stand for which part of the tree.
abbrev pub Production : Type 0 → Type 1
Production A = List Tok → A → Type 0

abbrev pub terminal_by : TokenKind → List ℕ → List ℕ
terminal_by Word text = if is_reserved_text text then text else []
terminal_by Mark text = text
terminal_by kind text = []

-- the reserved word or mark that a token is; nothing for any other token
abbrev pub terminal : Tok → List ℕ
terminal tok = terminal_by tok.kind tok.text

-- The token is this reserved word or mark.
abbrev pub Is : List ℕ → Tok → Type 0
Is text tok = terminal tok ≡ text

-- the place of the first token
abbrev pub place_of : List Tok → ℕ
place_of [] = 0
place_of (first ∷ rest) = first.at

abbrev pub IsNameBy : TokenKind → List ℕ → List ℕ → Type 0
IsNameBy Word text name = (IsReserved text → ⊥) × (name ≡ text)
IsNameBy Escaped text name = text ≡ 92 ∷ name
IsNameBy kind text name = ⊥

-- A name: a word that is not reserved, or an escaped name, whose name is what follows its backslash.
abbrev pub IsName : Tok → List ℕ → Type 0
IsName tok name = IsNameBy tok.kind tok.text name

-- the value of decimal digits, among which `_` is passed over
abbrev pub decimal_value : List ℕ → ℕ
decimal_value digits = fold (λ value digit. 10 * value + (digit - 48)) 0 (filter is_ascii_digit digits)

-- A decimal by itself, of this value.
abbrev pub IsDecimal : Tok → ℕ → Type 0
IsDecimal tok value = (tok.kind ≡ Decimal) × (value ≡ decimal_value tok.text) × (value ≤ 2147483647)

-- A count, as the size of a number or of a replication: a decimal from 1 to 4096.
abbrev pub IsCount : Tok → ℕ → Type 0
IsCount tok value = (tok.kind ≡ Decimal) × (value ≡ decimal_value tok.text) × (1 ≤ value) × (value ≤ 4096)

-- One token that is this.
abbrev pub One : {A : Type 0} → (Tok → A → Type 0) → Production A
One Spelled [] a = ⊥
One Spelled (tok ∷ []) a = Spelled tok a
One Spelled (tok ∷ next ∷ rest) a = ⊥

-- x?
abbrev pub Optional : {A : Type 0} → Production A → Production (Option A)
Optional Spelled ts None = ts ≡ []
Optional Spelled ts (Some a) = Spelled ts a

-- x*
pub data Many {A : Type 0} (Spelled : List Tok → A → Type 0) : List Tok → List A → Type 0 where
  none : Many Spelled [] []
  next : (first rest : List Tok) (a : A) (others : List A) → Spelled first a → Many Spelled rest others
      → Many Spelled (first ++ rest) (a ∷ others)

-- x,+
pub data Commas {A : Type 0} (Spelled : List Tok → A → Type 0) : List Tok → List A → Type 0 where
  last : (only : List Tok) (a : A) → Spelled only a → Commas Spelled only (a ∷ [])
  next : (first : List Tok) (comma : Tok) (rest : List Tok) (a : A) (others : List A) → Spelled first a
      → Is (codes ",") comma → Commas Spelled rest others
      → Commas Spelled (first ++ comma ∷ rest) (a ∷ others)

-- range = "[" decimal ":" decimal "]"
pub data IsRange : List Tok → Range → Type 0 where
  range : (opening left colon right closing : Tok) (high low : ℕ) → Is (codes "[") opening → IsDecimal left high
      → Is (codes ":") colon → IsDecimal right low → Is (codes "]") closing
      → IsRange (opening ∷ left ∷ colon ∷ right ∷ closing ∷ []) (record { left = high; right = low })

-- delay = "#" decimal | "#" "(" decimal,+ ")"
pub data IsDelay : List Tok → Type 0 where
  single : (hash value : Tok) (n : ℕ) → Is (codes "#") hash → IsDecimal value n → IsDelay (hash ∷ value ∷ [])
  several : (hash opening closing : Tok) (values : List Tok) (ns : List ℕ) → Is (codes "#") hash
      → Is (codes "(") opening → Commas (One IsDecimal) values ns → Is (codes ")") closing
      → IsDelay (hash ∷ opening ∷ (values ++ closing ∷ []))

-- delay?, which stands for nothing in the tree
abbrev pub IsAnyDelay : List Tok → Type 0
IsAnyDelay ts = (ts ≡ []) ⊎ IsDelay ts

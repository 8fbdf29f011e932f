-- The texts of words and of escaped names are printable.
use Rattle.std.proofs.Common.{◌≡◌, ◌<◌, ◌≤◌, inl, inr, ℕ, ◌+◌, ◌-◌, ◌==◌, Bool, true, false, ◌&&◌, if◌then◌else◌, List, [], ◌∷◌, ◌++◌, length, min, drop, slice_index, get_or, refl, ap, sym, subst, ◌∙◌, arith}
use Rattle.std.specs.Char.{is_ascii_digit, is_ascii_graphic}
use Rattle.std.specs.List.{list_all, list_any, slice_range}
use Rattle.std.proofs.lemmas.Bool.{cases_Bool, eqb-true}
use Rattle.std.proofs.lemmas.List.{get_or-drop, get_or-take, length-take}
use Rattle.std.proofs.lemmas.List.Elements.{All-from_get_or}
use Rattle.std.proofs.lemmas.List.Folds.{list_all-append}
use Rattle.std.proofs.lemmas.List.Sums.{list_all-from_AllPass}
use Rattle.std.proofs.Math.Nat.{eq-or-lt_of_le}
use Rattle.vlog_tokens.specs.Attributes.{closes, opens, stay}
use Rattle.vlog_tokens.specs.Classes.{is_space}
use Rattle.vlog_tokens.specs.Forms.{HasForm, IsToken}
use Rattle.vlog_tokens.specs.Rows.{kind_of, row_at}
use Rattle.vlog_tokens.specs.Tokens.{ArePieces, AreTokens, token_of, tokens_of}
use Rattle.vlog_tokens.specs.Toks.{Tok}
use Rattle.vlog_tokens.specs.declared.row.Row.{Row}
use Rattle.vlog_tokens.specs.declared.row.Row.TheVariants.{BlockComment, Directive, LineComment, Space, Token}
use Rattle.vlog_tokens.specs.declared.token.TokenKind.{TokenKind}
use Rattle.vlog_tokens.specs.declared.token.TokenKind.TheVariants.{Based, Decimal, Escaped, Mark, System, Text, Word}
use Rattle.vlog_words.specs.Words.{is_word_byte, is_word_start}

-- ---- tests

abbrev pub is_printable : List ℕ → Bool
is_printable text = list_all is_ascii_graphic text

-- whether the text of a token of this kind is printable, if it can be a name
abbrev pub is_fit_by : TokenKind → List ℕ → Bool
is_fit_by Word text = is_printable text
is_fit_by Escaped text = is_printable text
is_fit_by other text = true

abbrev pub is_fit : Tok → Bool
is_fit tok = is_fit_by tok.kind tok.text

abbrev pub are_fit : List Tok → Bool
are_fit ts = list_all is_fit ts

pub both : (first second : Bool) → first ≡ true → second ≡ true → (first && second) ≡ true
both true second one two = two
both false second one two = one

pub first_is : (first second : Bool) → (first && second) ≡ true → first ≡ true
first_is true second is = refl
first_is false second is = is

pub second_is : (first second : Bool) → (first && second) ≡ true → second ≡ true
second_is true second is = is
second_is false true is = refl
second_is false false is = is

pub all_joined : {X : Type 0} (p : X → Bool) (xs ys : List X) → list_all p xs ≡ true → list_all p ys ≡ true
    → list_all p (xs ++ ys) ≡ true
all_joined p xs ys one two = list_all-append p xs ys ∙ both (list_all p xs) (list_all p ys) one two

pub front_fit : (front rest : List Tok) → are_fit (front ++ rest) ≡ true → are_fit front ≡ true
front_fit front rest fit = first_is (are_fit front) (are_fit rest) (sym (list_all-append is_fit front rest) ∙ fit)

pub rest_fit : (front rest : List Tok) → are_fit (front ++ rest) ≡ true → are_fit rest ≡ true
rest_fit front rest fit = second_is (are_fit front) (are_fit rest) (sym (list_all-append is_fit front rest) ∙ fit)

-- ---- bytes between two places

graphic_range : (source : List ℕ) (from to : ℕ)
    → ((k : ℕ) → from ≤ k → k < to → is_ascii_graphic (slice_index source k) ≡ true)
    → is_printable (slice_range source from to) ≡ true
graphic_range source from to each =
    list_all-from_AllPass is_ascii_graphic (slice_range source from to)
    (All-from_get_or (λ byte. is_ascii_graphic byte ≡ true) (slice_range source from to) 0
    (λ i inside.
    let size : length (slice_range source from to) ≡ min (to - from) (length (drop from source)) =
    length-take (to - from) (drop from source) in
    let small : i < to - from = omega arith in
    let value : get_or (slice_range source from to) i 0 ≡ get_or source (from + i) 0 =
    get_or-take (to - from) (drop from source) i 0 small ∙ get_or-drop from source i 0 in
    ap is_ascii_graphic value ∙ each (from + i) (omega arith) (omega arith)))

-- the byte at a place, and those after it
graphic_from : (source : List ℕ) (from to : ℕ) → is_ascii_graphic (slice_index source from) ≡ true
    → ((k : ℕ) → from + 1 ≤ k → k < to → is_ascii_graphic (slice_index source k) ≡ true)
    → is_printable (slice_range source from to) ≡ true
graphic_from source from to first rest =
    graphic_range source from to (λ k low high. elim (eq-or-lt_of_le low) [
      | inl same ↦ subst (λ k. is_ascii_graphic (slice_index source k) ≡ true) same first
      | inr later ↦ rest k (omega arith) high
    ])

start_is_graphic : (byte : ℕ) → is_word_start byte ≡ true → is_ascii_graphic byte ≡ true
start_is_graphic byte h = grind arith

byte_is_graphic : (byte : ℕ) → is_word_byte byte ≡ true → is_ascii_graphic byte ≡ true
byte_is_graphic byte h = grind arith

-- ---- what a byte begins

abbrev row_by : Bool → Bool → Bool → Bool → TokenKind → Row
row_by space line block directive kind =
    if space then Space else (if line then LineComment else (if block then BlockComment
    else (if directive then Directive else Token kind)))

token_row : (space line block directive : Bool) (kind other : TokenKind) → row_by space line block directive kind ≡ Token other
    → kind ≡ other
token_row true line block directive kind other is = absurd cc
token_row false true block directive kind other is = absurd cc
token_row false false true directive kind other is = absurd cc
token_row false false false true kind other is = absurd cc
token_row false false false false kind other is = cc

kind_at : (source : List ℕ) (at : ℕ) (kind : TokenKind) → row_at source at ≡ Token kind → kind_of (slice_index source at) ≡ kind
kind_at source at kind is =
    let byte = slice_index source at in
    let next = slice_index source (at + 1) in
    token_row (is_space byte) (byte == 47 && next == 47) (byte == 47 && next == 42) (byte == 96) (kind_of byte) kind is

abbrev kind_by : Bool → Bool → Bool → Bool → Bool → Bool → TokenKind
kind_by word escaped system decimal based text =
    if word then Word else (if escaped then Escaped else (if system then System else (if decimal then Decimal
    else (if based then Based else (if text then Text else Mark)))))

word_begins : (word escaped system decimal based text : Bool) → kind_by word escaped system decimal based text ≡ Word
    → word ≡ true
word_begins true escaped system decimal based text is = refl
word_begins false true system decimal based text is = absurd cc
word_begins false false true decimal based text is = absurd cc
word_begins false false false true based text is = absurd cc
word_begins false false false false true text is = absurd cc
word_begins false false false false false true is = absurd cc
word_begins false false false false false false is = absurd cc

escaped_begins : (word escaped system decimal based text : Bool) → kind_by word escaped system decimal based text ≡ Escaped
    → escaped ≡ true
escaped_begins true escaped system decimal based text is = absurd cc
escaped_begins false true system decimal based text is = refl
escaped_begins false false true decimal based text is = absurd cc
escaped_begins false false false true based text is = absurd cc
escaped_begins false false false false true text is = absurd cc
escaped_begins false false false false false true is = absurd cc
escaped_begins false false false false false false is = absurd cc

word_starts : (byte : ℕ) → kind_of byte ≡ Word → is_word_start byte ≡ true
word_starts byte is =
    word_begins (is_word_start byte) (byte == 92) (byte == 36) (is_ascii_digit byte) (byte == 39) (byte == 34) is

escape_starts : (byte : ℕ) → kind_of byte ≡ Escaped → byte ≡ 92
escape_starts byte is =
    eqb-true byte 92
    (escaped_begins (is_word_start byte) (byte == 92) (byte == 36) (is_ascii_digit byte) (byte == 39) (byte == 34) is)

-- ---- tokens

module _ (source : List ℕ) (from to : ℕ) where
  kind_fit : (kind : TokenKind) → row_at source from ≡ Token kind → IsToken kind source from to
      → is_fit_by kind (slice_range source from to) ≡ true
  kind_fit Word at run =
      graphic_from source from to
      (start_is_graphic (slice_index source from) (word_starts (slice_index source from) (kind_at source from Word at)))
      (λ k low high. byte_is_graphic (slice_index source k) (run.each k low high))
  kind_fit Escaped at form =
      graphic_from source from to
      (ap is_ascii_graphic (escape_starts (slice_index source from) (kind_at source from Escaped at)))
      (λ k low high. form.name.each k low high)
  kind_fit System at form = refl
  kind_fit Decimal at form = refl
  kind_fit Based at form = refl
  kind_fit Text at form = refl
  kind_fit Mark at form = refl

  token_fit : (row : Row) → row_at source from ≡ row → HasForm row source from to
      → are_fit (token_of row from (slice_range source from to)) ≡ true
  token_fit Space at form = refl
  token_fit LineComment at form = refl
  token_fit BlockComment at form = refl
  token_fit Directive at form = refl
  token_fit (Token kind) at form = both (is_fit_by kind (slice_range source from to)) true (kind_fit kind at form) refl

pieces_fit : (source : List ℕ) (from : ℕ) (ends : List ℕ) (to : ℕ) → ArePieces source from ends to
    → are_fit (tokens_of source from ends) ≡ true
pieces_fit source from [] to pieces = refl
pieces_fit source from (mid ∷ ends) to pieces =
    all_joined is_fit (token_of (row_at source from) from (slice_range source from mid)) (tokens_of source mid ends)
    (token_fit source from mid (row_at source from) refl pieces.0.form) (pieces_fit source mid ends to pieces.1)

-- Fewer tokens are fit too.
stay_fit : (inside : Bool) (ts : List Tok) → are_fit ts ≡ true → are_fit (stay inside ts) ≡ true
stay_fit inside [] fit = refl
stay_fit false (t ∷ ts) fit =
    let later : are_fit ts ≡ true = second_is (is_fit t) (are_fit ts) fit in
    let skipped : are_fit (stay true ts) ≡ true = stay_fit true ts later in
    let kept : are_fit (t ∷ stay false ts) ≡ true =
    both (is_fit t) (are_fit (stay false ts)) (first_is (is_fit t) (are_fit ts) fit) (stay_fit false ts later) in
    elim (cases_Bool (opens t && list_any closes ts)) [
      | inl e ↦ rw e skipped
      | inr e ↦ rw e kept
    ]
stay_fit true (t ∷ ts) fit =
    let later : are_fit ts ≡ true = second_is (is_fit t) (are_fit ts) fit in
    let left : are_fit (stay false ts) ≡ true = stay_fit false ts later in
    let still : are_fit (stay true ts) ≡ true = stay_fit true ts later in
    elim (cases_Bool (closes t)) [
      | inl e ↦ rw e left
      | inr e ↦ rw e still
    ]

-- The tokens of a source that may be names are printable.
pub tokens_fit : (source : List ℕ) (ts : List Tok) → AreTokens source ts → are_fit ts ≡ true
tokens_fit source ts are =
    ap are_fit are.kept
    ∙ stay_fit false (tokens_of source 0 are.ends) (pieces_fit source 0 are.ends (length source) are.pieces)

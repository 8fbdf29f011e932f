-- The words that begin with one byte.
use Rattle.std.proofs.Common.{◌≡◌, ℕ, List, [], ◌∷◌, ◌==◌, ◌&&◌, ◌||◌, ◌<◌, ◌≤◌, length, get_or, arith, Bool, true, false, filter, refl, ap, sym, subst, ◌∙◌, inl, inr}
use Rattle.std.specs.List.{list_all, list_any}
use Rattle.std.specs.Str.{bytes_eq}
use Rattle.std.proofs.lemmas.Bool.{and_parts, cases_Bool, cond-false, cond-true, eqb-true, false≢true, or_cases, or_parts}
use Rattle.vlog_words.specs.Words.{begins_with, is_text_among}

-- what begins with this letter, for a byte that is this letter
pub row_at : (words : List (List ℕ)) (first letter : ℕ) (row : List (List ℕ)) → first ≡ letter
    → row ≡ filter (begins_with letter) words → row ≡ filter (begins_with first) words
row_at words first letter row same is = subst (λ n. row ≡ filter (begins_with n) words) (sym same) is

abbrev begins_among : List ℕ → List ℕ → Bool
begins_among letters word = list_any (λ letter. begins_with letter word) letters

-- a word that begins with one of the letters does not begin with another byte
other_letter : (letters word : List ℕ) (first : ℕ) → begins_among letters word ≡ true
    → list_any (λ letter. letter == first) letters ≡ false → begins_with first word ≡ false
other_letter [] word first some none = absurd (false≢true some)
other_letter (letter ∷ letters) [] first some none = refl
other_letter (letter ∷ letters) (byte ∷ rest) first some none =
    let apart = or_parts (letter == first) (list_any (λ letter. letter == first) letters) none in
    elim (or_cases (byte == letter) (begins_among letters (byte ∷ rest)) some) [
      | inl same ↦ ap (λ n. n == first) (eqb-true byte letter same) ∙ apart.0
      | inr later ↦ other_letter letters (byte ∷ rest) first later apart.1
    ]

-- where all words begin with one of the letters, none begins with another byte
pub no_row : (letters : List ℕ) (words : List (List ℕ)) (first : ℕ) → list_all (begins_among letters) words ≡ true
    → list_any (λ letter. letter == first) letters ≡ false → [] ≡ filter (begins_with first) words
no_row letters [] first all none = refl
no_row letters (word ∷ words) first all none =
    let parts = and_parts (begins_among letters word) (list_all (begins_among letters) words) all in
    no_row letters words first parts.1 none
    ∙ sym (cond-false (begins_with first word) _ _ (other_letter letters word first parts.0 none))

other_text : (word : List ℕ) (first : ℕ) (rest : List ℕ)
    → begins_with first word ≡ false → bytes_eq word (first ∷ rest) ≡ false
other_text [] first rest other = refl
other_text (byte ∷ bytes) first rest other = ap (λ b. b && bytes_eq bytes rest) other

-- a text is among words just if it is among those that begin with its first byte
among_row : (words : List (List ℕ)) (first : ℕ) (rest : List ℕ)
    → is_text_among (filter (begins_with first) words) (first ∷ rest) ≡ is_text_among words (first ∷ rest)
among_row [] first rest = refl
among_row (word ∷ words) first rest = elim (cases_Bool (begins_with first word)) [
  | inl begins ↦ ap (λ row. is_text_among row (first ∷ rest)) (cond-true (begins_with first word) _ _ begins)
      ∙ ap (λ b. bytes_eq word (first ∷ rest) || b) (among_row words first rest)
  | inr other ↦ ap (λ row. is_text_among row (first ∷ rest)) (cond-false (begins_with first word) _ _ other)
      ∙ among_row words first rest
      ∙ sym (ap (λ b. b || is_text_among words (first ∷ rest)) (other_text word first rest other))
]

pub by_row : (words row : List (List ℕ)) (text : List ℕ) (found : Bool) → 1 ≤ length text
    → row ≡ filter (begins_with (get_or text 0 0)) words → found ≡ is_text_among row text → found ≡ is_text_among words text
by_row words row [] found some is e = absurd (omega (arith, some))
by_row words row (first ∷ rest) found some is e = e ∙ ap (λ ws. is_text_among ws (first ∷ rest)) is ∙ among_row words first rest

-- no text without a byte is among words with bytes
pub no_text : (words : List (List ℕ)) (text : List ℕ) → length text < 1
    → is_text_among words [] ≡ false → false ≡ is_text_among words text
no_text words [] none each = sym each
no_text words (first ∷ rest) none each = absurd (omega (arith, none))

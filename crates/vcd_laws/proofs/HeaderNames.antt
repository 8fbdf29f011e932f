-- The written name and range of a variable, as they are read.
use Rattle.std.proofs.Common.{◌≡◌, ℕ, ◌+◌, ◌-◌, ◌≤◌, ◌==◌, not, List, [], ◌∷◌, ◌++◌, Bool, true, false, cond, codes, decimal, length, reverse, take, drop, nat_lt, slice_index, Option, Some, None, if◌then◌else◌, arith, refl, sym, ap, ◌∙◌}
use Rattle.std.specs.Char.{is_ascii_digit}
use Rattle.std.specs.List.{after_first, before_first, list_all, list_any, prefix_len}
use Rattle.std.proofs.lemmas.List.{append_assoc, append-nil, length-append, length-reverse, reverse-append}
use Rattle.std.proofs.lemmas.List.Folds.{list_all-append}
use Rattle.std.proofs.Math.Seq.{get_or-append_seam, take-append_seam}
use Rattle.bm_base.specs.declared.range.Range.{Range}
use Rattle.vcd_header.specs.declared.select.Select.{Select}
use Rattle.vcd_header.specs.declared.select.Select.TheVariants.{Whole, Part}
use Rattle.vcd_header.specs.Decimals.{small_number}
use Rattle.vcd_header.specs.Scopes.{without_backslash}
use Rattle.vcd_header.specs.Variables.{indices, is_bracket, is_colon, name_and_select, named_alone, parted, range_of, select_at, select_by, select_of}
use Rattle.vcd_header.proofs.ListLemmas.{after_more, after_now, any_more, any_now, before_more, before_now}
use Rattle.vlog_words.specs.Words.{is_reserved_text, is_word_byte, is_word_start, is_word_text}
use Rattle.vcd_writer.specs.WrittenName.{is_plain, written_name}
use Rattle.vcd_laws.proofs.HeaderLines.{range_text, range_words}
use Rattle.vcd_laws.proofs.TextTokens.{placed}
use Rattle.vcd_laws.proofs.TextWords.{all_weaker, and_first, and_second, decimal_digits, small_read}

-- ---- plain names

start_no_bracket : (byte : ℕ) → is_word_start byte ≡ true → not (is_bracket byte) ≡ true
start_no_bracket byte h = grind arith

byte_no_bracket : (byte : ℕ) → is_word_byte byte ≡ true → not (is_bracket byte) ≡ true
byte_no_bracket byte h = grind arith

start_no_backslash : (byte : ℕ) → is_word_start byte ≡ true → (byte == 92) ≡ false
start_no_backslash byte h = grind arith

word_no_bracket : (name : List ℕ) → is_word_text name ≡ true → list_all (λ byte. not (is_bracket byte)) name ≡ true
word_no_bracket [] h = refl
word_no_bracket (byte ∷ bytes) h =
    let here = start_no_bracket byte (and_first (is_word_start byte) (list_all is_word_byte bytes) h) in
    let later = all_weaker is_word_byte (λ byte. not (is_bracket byte)) byte_no_bracket bytes (and_second (is_word_start byte) (list_all is_word_byte bytes) h) in
    rw (here, later) refl

prefix_all : (p : ℕ → Bool) (bytes : List ℕ) → list_all p bytes ≡ true → prefix_len p bytes ≡ length bytes
prefix_all p [] h = refl
prefix_all p (byte ∷ bytes) h =
    let here = and_first (p byte) (list_all p bytes) h in
    let later = prefix_all p bytes (and_second (p byte) (list_all p bytes) h) in
    rw here (omega (arith, later))

all_turned : (p : ℕ → Bool) (bytes : List ℕ) → list_all p bytes ≡ true → list_all p (reverse bytes) ≡ true
all_turned p [] h = refl
all_turned p (byte ∷ bytes) h =
    let here = and_first (p byte) (list_all p bytes) h in
    let later = all_turned p bytes (and_second (p byte) (list_all p bytes) h) in
    ap (list_all p) (reverse-append (byte ∷ []) bytes)
    ∙ list_all-append p (reverse bytes) (byte ∷ [])
    ∙ rw (here, later) refl

none_before : (bytes : List ℕ) (n m k : ℕ) → n ≡ m → m ≡ k → length (take (n - k - 1) bytes) ≡ 0
none_before bytes n m k nm mk = let none : n - k - 1 ≡ 0 = omega arith in ap (λ k. length (take k bytes)) none

-- a word has no select
no_select : (name : List ℕ) → is_word_text name ≡ true → select_at name ≡ 0
no_select name h =
    let all = prefix_all (λ byte. not (is_bracket byte)) (reverse name) (all_turned (λ byte. not (is_bracket byte)) name (word_no_bracket name h)) in
    none_before name (length name) (length (reverse name)) (prefix_len (λ byte. not (is_bracket byte)) (reverse name)) (sym (length-reverse name)) (sym all)

parted_whole : (text : List ℕ) (range : Option Range) → select_at text ≡ 0 → parted text range ≡ (text, Whole)
parted_whole text None none = refl
parted_whole text (Some range) none = ap (λ (at : ℕ). if nat_lt 0 at then (take at text, Part range) else (text, Whole)) none

plain_alone : (name : List ℕ) → is_word_text name ≡ true → named_alone name ≡ (name, Whole)
plain_alone [] h = refl
plain_alone (byte ∷ bytes) h =
    ap (λ (test : Bool). if test then (bytes, Whole) else parted (byte ∷ bytes) (select_of (drop (select_at (byte ∷ bytes)) (byte ∷ bytes))))
    (start_no_backslash byte (and_first (is_word_start byte) (list_all is_word_byte bytes) h))
    ∙ parted_whole (byte ∷ bytes) (select_of (drop (select_at (byte ∷ bytes)) (byte ∷ bytes))) (no_select (byte ∷ bytes) h)

plain_without : (name : List ℕ) → is_word_text name ≡ true → without_backslash name ≡ name
plain_without [] h = refl
plain_without (byte ∷ bytes) h =
    ap (λ (test : Bool). if test then bytes else byte ∷ bytes) (start_no_backslash byte (and_first (is_word_start byte) (list_all is_word_byte bytes) h))

plain_word : (name : List ℕ) → is_plain name ≡ true → is_word_text name ≡ true
plain_word name h = and_first (is_word_text name) (not (is_reserved_text name)) h

name_alone : (name : List ℕ) → named_alone (written_name name) ≡ (name, Whole)
name_alone name = by (is_plain name) refl
  where
    by : (b : Bool) → is_plain name ≡ b → named_alone (cond b name (codes "\\" ++ name)) ≡ (name, Whole)
    by true plain = plain_alone name (plain_word name plain)
    by false other = refl

name_without : (name : List ℕ) → without_backslash (written_name name) ≡ name
name_without name = by (is_plain name) refl
  where
    by : (b : Bool) → is_plain name ≡ b → without_backslash (cond b name (codes "\\" ++ name)) ≡ name
    by true plain = plain_without name (plain_word name plain)
    by false other = refl

-- ---- ranges

digit_no_colon : (byte : ℕ) → is_ascii_digit byte ≡ true → is_colon byte ≡ false
digit_no_colon byte h = grind arith

colon_found : (left right : List ℕ) → list_all is_ascii_digit left ≡ true → list_any is_colon (left ++ 58 ∷ right) ≡ true
colon_found [] right h = any_now is_colon 58 right refl
colon_found (byte ∷ left) right h =
    any_more is_colon byte (left ++ 58 ∷ right) (digit_no_colon byte (and_first (is_ascii_digit byte) (list_all is_ascii_digit left) h))
    ∙ colon_found left right (and_second (is_ascii_digit byte) (list_all is_ascii_digit left) h)

colon_before : (left right : List ℕ) → list_all is_ascii_digit left ≡ true → before_first is_colon (left ++ 58 ∷ right) ≡ left
colon_before [] right h = before_now is_colon 58 right refl
colon_before (byte ∷ left) right h =
    before_more is_colon byte (left ++ 58 ∷ right) (digit_no_colon byte (and_first (is_ascii_digit byte) (list_all is_ascii_digit left) h))
    ∙ ap (λ text. byte ∷ text) (colon_before left right (and_second (is_ascii_digit byte) (list_all is_ascii_digit left) h))

colon_after : (left right : List ℕ) → list_all is_ascii_digit left ≡ true → after_first is_colon (left ++ 58 ∷ right) ≡ right
colon_after [] right h = after_now is_colon 58 right refl
colon_after (byte ∷ left) right h =
    after_more is_colon byte (left ++ 58 ∷ right) (digit_no_colon byte (and_first (is_ascii_digit byte) (list_all is_ascii_digit left) h))
    ∙ colon_after left right (and_second (is_ascii_digit byte) (list_all is_ascii_digit left) h)

indices_of : (left right : List ℕ) → list_all is_ascii_digit left ≡ true → indices (left ++ 58 ∷ right) ≡ range_of (small_number left) (small_number right)
indices_of left right h =
    let text = left ++ 58 ∷ right in
    ap (λ (test : Bool). if test then range_of (small_number (before_first is_colon text)) (small_number (after_first is_colon text)) else range_of (small_number text) (small_number text)) (colon_found left right h)
    ∙ ap (λ first. range_of (small_number first) (small_number (after_first is_colon text))) (colon_before left right h)
    ∙ ap (λ second. range_of (small_number left) (small_number second)) (colon_after left right h)

-- the indices between brackets
brackets : (bytes middle : List ℕ) (n : ℕ) → (length bytes == 0) ≡ false → length bytes - 1 ≡ n → slice_index bytes n ≡ 93 → take n bytes ≡ middle
    → select_of (91 ∷ bytes) ≡ indices middle
brackets bytes middle n some len last front = rw (some, len, last, front) refl

between : (middle : List ℕ) → select_of (91 ∷ (middle ++ 93 ∷ [])) ≡ indices middle
between middle =
    let bytes = middle ++ 93 ∷ [] in
    let all : length bytes ≡ length middle + 1 = length-append middle (93 ∷ []) in
    let some : (length bytes == 0) ≡ false = grind arith in
    let len : length bytes - 1 ≡ length middle = omega arith in
    brackets bytes middle (length middle) some len (get_or-append_seam middle 93 [] 0) (take-append_seam middle (93 ∷ []))

range_read : (range : Range) → range.left ≤ 2147483647 → range.right ≤ 2147483647 → select_of (range_text range) ≡ Some range
range_read range left right =
    let shape : range_text range ≡ 91 ∷ ((decimal range.left ++ 58 ∷ decimal range.right) ++ 93 ∷ []) =
    ap (λ text. 91 ∷ text) (sym (append_assoc (decimal range.left) (58 ∷ decimal range.right) (93 ∷ []))) in
    ap select_of shape
    ∙ between (decimal range.left ++ 58 ∷ decimal range.right)
    ∙ indices_of (decimal range.left) (decimal range.right) (decimal_digits range.left (omega arith))
    ∙ ap (λ first. range_of first (small_number (decimal range.right))) (small_read range.left left)
    ∙ ap (λ second. range_of (Some range.left) second) (small_read range.right right)

-- ---- both

abbrev pub select_for : Option Range → Select
select_for None = Whole
select_for (Some range) = Part range

abbrev pub IsSmall : Option Range → Type 0
IsSmall None = Unit {0}
IsSmall (Some range) = (range.left ≤ 2147483647) × (range.right ≤ 2147483647)

pub name_read : (at : ℕ) (name : List ℕ) (range : Option Range) → IsSmall range → name_and_select (written_name name) (placed at (range_words range)) ≡ (name, select_for range)
name_read at name None small = name_alone name
name_read at name (Some range) (left, right) =
    ap (λ (first : List ℕ). (first, select_by (select_of (range_text range ++ [])))) (name_without name)
    ∙ ap (λ (text : List ℕ). (name, select_by (select_of text))) (append-nil (range_text range))
    ∙ ap (λ (found : Option Range). (name, select_by found)) (range_read range left right)

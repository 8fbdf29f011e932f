-- The tokens of text, word by word and line by line.
use Rattle.std.proofs.Common.{◌≡◌, ℕ, ◌+◌, ◌≤◌, ◌==◌, ◌&&◌, not, suc, List, [], ◌∷◌, ◌++◌, Bool, true, false, cond, length, map, flat_map, arith, refl, sym, ap, ◌∙◌}
use Rattle.std.specs.List.{list_all}
use Rattle.std.proofs.lemmas.List.{append_assoc, append-nil, length-append, map-append}
use Rattle.std.proofs.lemmas.Grind.{flat_map-append}
use Rattle.vcd_header.specs.Tokens.{Tok, is_blank, is_ink, tokens_from, with_byte}
use Rattle.vcd_header.proofs.TokenLemmas.{StartsFrom, tokens_start}
use Rattle.vcd_writer.specs.Line.{text_of}

-- a token of this text at this place
abbrev pub tok_at : ℕ → List ℕ → Tok
tok_at at text = record { at = at; text = text }

-- the texts of tokens, places aside
abbrev pub texts_of : List Tok → List (List ℕ)
texts_of tokens = map (λ (token : Tok). token.text) tokens

-- ---- text that is parted by a blank byte

starts_earlier : (early late : ℕ) (tokens : List Tok) → early ≤ late → StartsFrom late tokens → StartsFrom early tokens
starts_earlier early late [] le h = tt
starts_earlier early late (token ∷ tokens) le h = omega arith

with_ink : (at byte : ℕ) (bytes : List ℕ) → is_blank byte ≡ false → tokens_from at (byte ∷ bytes) ≡ with_byte at byte (tokens_from (at + 1) bytes)
with_ink at byte bytes ink = rw ink refl

with_blank : (at byte : ℕ) (bytes : List ℕ) → is_blank byte ≡ true → tokens_from at (byte ∷ bytes) ≡ tokens_from (at + 1) bytes
with_blank at byte bytes blank = rw blank refl

-- A byte that no token starts directly behind is a token by itself.
with_byte_apart : (at byte : ℕ) (tokens : List Tok) → StartsFrom (at + 2) tokens → with_byte at byte tokens ≡ tok_at at (byte ∷ []) ∷ tokens
with_byte_apart at byte [] h = refl
with_byte_apart at byte (token ∷ tokens) h = grind arith

with_byte_front : (at byte : ℕ) (left right : List Tok) → StartsFrom (at + 2) right → with_byte at byte (left ++ right) ≡ with_byte at byte left ++ right
with_byte_front at byte [] right h = with_byte_apart at byte right h
with_byte_front at byte (token ∷ left) right h = by (token.at == at + 1)
  where
    by : (b : Bool)
        → cond b (tok_at at (byte ∷ token.text) ∷ (left ++ right)) (tok_at at (byte ∷ []) ∷ token ∷ (left ++ right))
        ≡ cond b (tok_at at (byte ∷ token.text) ∷ left) (tok_at at (byte ∷ []) ∷ token ∷ left) ++ right
    by true = refl
    by false = refl

pub parted : (at blank : ℕ) (left right : List ℕ) → is_blank blank ≡ true
    → tokens_from at (left ++ blank ∷ right) ≡ tokens_from at left ++ tokens_from (at + length left + 1) right
parted at blank [] right is =
    let place : at + 1 ≡ at + 0 + 1 = omega arith in
    with_blank at blank right is ∙ ap (λ k. tokens_from k right) place
parted at blank (byte ∷ left) right is = by (is_blank byte) refl (parted (at + 1) blank left right is)
  where
    place : at + 1 + length left + 1 ≡ at + suc (length left) + 1
    place = omega arith

    by : (b : Bool) → is_blank byte ≡ b
        → tokens_from (at + 1) (left ++ blank ∷ right) ≡ tokens_from (at + 1) left ++ tokens_from (at + 1 + length left + 1) right
        → tokens_from at (byte ∷ (left ++ blank ∷ right)) ≡ tokens_from at (byte ∷ left) ++ tokens_from (at + suc (length left) + 1) right
    by true e ih =
        with_blank at byte (left ++ blank ∷ right) e
        ∙ ih
        ∙ ap (λ k. tokens_from (at + 1) left ++ tokens_from k right) place
        ∙ ap (λ front. front ++ tokens_from (at + suc (length left) + 1) right) (sym (with_blank at byte left e))
    by false e ih =
        let later = at + 1 + length left + 1 in
        let start = starts_earlier (at + 2) later (tokens_from later right) (omega arith) (tokens_start later right) in
        with_ink at byte (left ++ blank ∷ right) e
        ∙ ap (with_byte at byte) ih
        ∙ with_byte_front at byte (tokens_from (at + 1) left) (tokens_from later right) start
        ∙ ap (λ k. with_byte at byte (tokens_from (at + 1) left) ++ tokens_from k right) place
        ∙ ap (λ front. front ++ tokens_from (at + suc (length left) + 1) right) (sym (with_ink at byte left e))

-- ---- a run of bytes that are not blank

-- whether it is one token: one byte or more, and none of them blank
abbrev pub is_run : List ℕ → Bool
is_run [] = false
is_run (byte ∷ bytes) = list_all is_ink (byte ∷ bytes)

abbrev pub AreRuns : List (List ℕ) → Type 0
AreRuns [] = Unit {0}
AreRuns (word ∷ words) = (is_run word ≡ true) × AreRuns words

with_byte_onto : (at byte : ℕ) (text : List ℕ) → with_byte at byte (tok_at (at + 1) text ∷ []) ≡ tok_at at (byte ∷ text) ∷ []
with_byte_onto at byte text = grind arith

ink_alone : (at byte : ℕ) (bytes : List ℕ) → list_all is_ink (byte ∷ bytes) ≡ true → tokens_from at (byte ∷ bytes) ≡ tok_at at (byte ∷ bytes) ∷ []
ink_alone at byte [] ink = by (is_blank byte) refl ink
  where
    by : (b : Bool) → is_blank byte ≡ b → (not b && true) ≡ true → tokens_from at (byte ∷ []) ≡ tok_at at (byte ∷ []) ∷ []
    by true e h = absurd (cc)
    by false e h = with_ink at byte [] e
ink_alone at byte (next ∷ bytes) ink = by (is_blank byte) refl ink (ink_alone (at + 1) next bytes)
  where
    by : (b : Bool) → is_blank byte ≡ b → (not b && list_all is_ink (next ∷ bytes)) ≡ true
        → (list_all is_ink (next ∷ bytes) ≡ true → tokens_from (at + 1) (next ∷ bytes) ≡ tok_at (at + 1) (next ∷ bytes) ∷ [])
        → tokens_from at (byte ∷ next ∷ bytes) ≡ tok_at at (byte ∷ next ∷ bytes) ∷ []
    by true e h ih = absurd (cc)
    by false e h ih = with_ink at byte (next ∷ bytes) e ∙ ap (with_byte at byte) (ih h) ∙ with_byte_onto at byte (next ∷ bytes)

pub run_alone : (at : ℕ) (word : List ℕ) → is_run word ≡ true → tokens_from at word ≡ tok_at at word ∷ []
run_alone at [] is = absurd (cc)
run_alone at (byte ∷ bytes) is = ink_alone at byte bytes is

-- ---- words in a line, with a space between them

abbrev pub later_words : List (List ℕ) → List ℕ
later_words [] = []
later_words (word ∷ words) = 32 ∷ word ++ later_words words

abbrev pub spaced : List (List ℕ) → List ℕ
spaced [] = []
spaced (word ∷ words) = word ++ later_words words

-- the tokens that they are, from this place on
abbrev pub placed : ℕ → List (List ℕ) → List Tok
placed at [] = []
placed at (word ∷ words) = tok_at at word ∷ placed (at + length word + 1) words

pub placed_texts : (at : ℕ) (words : List (List ℕ)) → texts_of (placed at words) ≡ words
placed_texts at [] = refl
placed_texts at (word ∷ words) = ap (λ texts. word ∷ texts) (placed_texts (at + length word + 1) words)

words_tokens : (at : ℕ) (word : List ℕ) (words : List (List ℕ)) → AreRuns (word ∷ words)
    → tokens_from at (word ++ later_words words) ≡ placed at (word ∷ words)
words_tokens at word [] (run, runs) = ap (tokens_from at) (append-nil word) ∙ run_alone at word run
words_tokens at word (next ∷ words) (run, runs) =
    parted at 32 word (next ++ later_words words) refl
    ∙ ap (λ front. front ++ tokens_from (at + length word + 1) (next ++ later_words words)) (run_alone at word run)
    ∙ ap (λ tokens. tok_at at word ∷ tokens) (words_tokens (at + length word + 1) next words runs)

pub spaced_tokens : (at : ℕ) (words : List (List ℕ)) → AreRuns words → tokens_from at (spaced words) ≡ placed at words
spaced_tokens at [] runs = refl
spaced_tokens at (word ∷ words) runs = words_tokens at word words runs

-- a line and what stands behind its newline
pub line_tokens : (at : ℕ) (words : List (List ℕ)) (rest : List ℕ) → AreRuns words
    → tokens_from at (spaced words ++ 10 ∷ rest) ≡ placed at words ++ tokens_from (at + length (spaced words) + 1) rest
line_tokens at words rest runs =
    parted at 10 (spaced words) rest refl
    ∙ ap (λ front. front ++ tokens_from (at + length (spaced words) + 1) rest) (spaced_tokens at words runs)

pub line_texts : (at : ℕ) (words : List (List ℕ)) (rest : List ℕ) → AreRuns words
    → texts_of (tokens_from at (spaced words ++ 10 ∷ rest)) ≡ words ++ texts_of (tokens_from (at + length (spaced words) + 1) rest)
line_texts at words rest runs =
    ap texts_of (line_tokens at words rest runs)
    ∙ map-append (λ (token : Tok). token.text) (placed at words) (tokens_from (at + length (spaced words) + 1) rest)
    ∙ ap (λ front. front ++ texts_of (tokens_from (at + length (spaced words) + 1) rest)) (placed_texts at words)

-- ---- lines

abbrev pub AreLines : List (List (List ℕ)) → Type 0
AreLines [] = Unit {0}
AreLines (words ∷ lines) = AreRuns words × AreLines lines

-- the tokens of lines, from this place on
abbrev pub placed_lines : ℕ → List (List (List ℕ)) → List Tok
placed_lines at [] = []
placed_lines at (words ∷ lines) = placed at words ++ placed_lines (at + length (spaced words) + 1) lines

text_first : (line : List ℕ) (lines : List (List ℕ)) → text_of (line ∷ lines) ≡ line ++ 10 ∷ text_of lines
text_first line lines = append_assoc line (10 ∷ []) (text_of lines)

pub lines_tokens : (at : ℕ) (lines : List (List (List ℕ))) → AreLines lines → tokens_from at (text_of (map spaced lines)) ≡ placed_lines at lines
lines_tokens at [] are = refl
lines_tokens at (words ∷ lines) (runs, are) =
    ap (tokens_from at) (text_first (spaced words) (map spaced lines))
    ∙ line_tokens at words (text_of (map spaced lines)) runs
    ∙ ap (λ later. placed at words ++ later) (lines_tokens (at + length (spaced words) + 1) lines are)

pub placed_lines_texts : (at : ℕ) (lines : List (List (List ℕ))) → texts_of (placed_lines at lines) ≡ flat_map (λ words. words) lines
placed_lines_texts at [] = refl
placed_lines_texts at (words ∷ lines) =
    map-append (λ (token : Tok). token.text) (placed at words) (placed_lines (at + length (spaced words) + 1) lines)
    ∙ ap (λ front. front ++ texts_of (placed_lines (at + length (spaced words) + 1) lines)) (placed_texts at words)
    ∙ ap (λ later. words ++ later) (placed_lines_texts (at + length (spaced words) + 1) lines)

-- the words of lines, places aside
pub lines_texts : (at : ℕ) (lines : List (List (List ℕ))) → AreLines lines
    → texts_of (tokens_from at (text_of (map spaced lines))) ≡ flat_map (λ words. words) lines
lines_texts at lines are = ap texts_of (lines_tokens at lines are) ∙ placed_lines_texts at lines

-- The tokens of any lines, and of any text behind them, which starts anew.
pub text_parted : (at : ℕ) (lines : List (List ℕ)) (rest : List ℕ)
    → tokens_from at (text_of lines ++ rest) ≡ tokens_from at (text_of lines) ++ tokens_from (at + length (text_of lines)) rest
text_parted at [] rest = let same : at ≡ at + 0 = omega arith in ap (λ k. tokens_from k rest) same
text_parted at (line ∷ lines) rest =
    let next = at + length line + 1 in
    let texts = text_of lines in
    let more : length (text_of (line ∷ lines)) ≡ length line + suc (length texts) =
    ap length (text_first line lines) ∙ length-append line (10 ∷ texts) in
    let place : next + length texts ≡ at + length (text_of (line ∷ lines)) = omega arith in
    ap (λ text. tokens_from at (text ++ rest)) (text_first line lines)
    ∙ ap (tokens_from at) (append_assoc line (10 ∷ texts) rest)
    ∙ parted at 10 line (texts ++ rest) refl
    ∙ ap (λ later. tokens_from at line ++ later) (text_parted next lines rest)
    ∙ sym (append_assoc (tokens_from at line) (tokens_from next texts) (tokens_from (next + length texts) rest))
    ∙ ap (λ front. front ++ tokens_from (next + length texts) rest) (sym (parted at 10 line texts refl))
    ∙ ap (λ text. tokens_from at text ++ tokens_from (next + length texts) rest) (sym (text_first line lines))
    ∙ ap (λ k. tokens_from at (text_of (line ∷ lines)) ++ tokens_from k rest) place

-- the tokens of lines, and of the lines behind them
pub lines_parted : (at : ℕ) (front back : List (List ℕ))
    → tokens_from at (text_of (front ++ back)) ≡ tokens_from at (text_of front) ++ tokens_from (at + length (text_of front)) (text_of back)
lines_parted at front back =
    ap (tokens_from at) (flat_map-append (λ line. line ++ 10 ∷ []) front back)
    ∙ text_parted at front (text_of back)

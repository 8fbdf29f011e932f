-- Tokens, token by token.
use Rattle.std.proofs.Common.{◌≡◌, ℕ, ◌+◌, ◌-◌, ◌<◌, ◌≤◌, ◌==◌, zero, suc, List, [], ◌∷◌, Bool, true, false, cond, length, take, drop, get_or, arith, refl, subst, sym, ap, ◌∙◌}
use Rattle.std.specs.List.{prefix_len, slice_range}
use Rattle.std.proofs.lemmas.List.{drop_more, drop-drop}
use Rattle.vcd_header.specs.Tokens.{Tok, is_blank, is_ink, tokens_from, with_byte}

-- The first token starts at this place or behind it.
abbrev pub StartsFrom : ℕ → List Tok → Type 0
StartsFrom at [] = Unit {0}
StartsFrom at (token ∷ tokens) = at ≤ token.at

starts_with_byte : (at byte : ℕ) (tokens : List Tok) → StartsFrom at (with_byte at byte tokens)
starts_with_byte at byte [] = omega arith
starts_with_byte at byte (token ∷ tokens) = by (token.at == at + 1)
  where
    by : (b : Bool) → StartsFrom at (cond b (record { at = at; text = byte ∷ token.text } ∷ tokens) (record { at = at; text = byte ∷ [] } ∷ token ∷ tokens))
    by true = omega arith
    by false = omega arith

starts_before : (at : ℕ) (tokens : List Tok) → StartsFrom (at + 1) tokens → StartsFrom at tokens
starts_before at [] h = tt
starts_before at (token ∷ tokens) h = omega arith

pub tokens_start : (at : ℕ) (bytes : List ℕ) → StartsFrom at (tokens_from at bytes)
tokens_start at [] = tt
tokens_start at (byte ∷ bytes) = by (is_blank byte) (tokens_start (at + 1) bytes)
  where
    by : (b : Bool) → StartsFrom (at + 1) (tokens_from (at + 1) bytes) → StartsFrom at (cond b (tokens_from (at + 1) bytes) (with_byte at byte (tokens_from (at + 1) bytes)))
    by true h = starts_before at (tokens_from (at + 1) bytes) h
    by false h = starts_with_byte at byte (tokens_from (at + 1) bytes)

-- A byte that no token starts behind is a token by itself.
with_byte_apart : (at byte : ℕ) (tokens : List Tok) → StartsFrom (at + 2) tokens → with_byte at byte tokens ≡ record { at = at; text = byte ∷ [] } ∷ tokens
with_byte_apart at byte [] h = refl
with_byte_apart at byte (token ∷ tokens) h = grind arith

with_byte_onto : (at byte : ℕ) (text : List ℕ) (tokens : List Tok) → with_byte at byte (record { at = at + 1; text = text } ∷ tokens) ≡ record { at = at; text = byte ∷ text } ∷ tokens
with_byte_onto at byte text tokens = grind arith

-- the tokens where the first byte is not blank
with_ink : (at byte : ℕ) (bytes : List ℕ) → is_blank byte ≡ false → tokens_from at (byte ∷ bytes) ≡ with_byte at byte (tokens_from (at + 1) bytes)
with_ink at byte bytes ink = rw ink refl

with_blank : (at byte : ℕ) (bytes : List ℕ) → is_blank byte ≡ true → tokens_from at (byte ∷ bytes) ≡ tokens_from (at + 1) bytes
with_blank at byte bytes blank = rw blank refl

ink_more : (byte : ℕ) (bytes : List ℕ) → is_blank byte ≡ false → prefix_len is_ink (byte ∷ bytes) ≡ suc (prefix_len is_ink bytes)
ink_more byte bytes ink = rw ink (grind arith)

ink_none : (byte : ℕ) (bytes : List ℕ) → is_blank byte ≡ true → prefix_len is_ink (byte ∷ bytes) ≡ zero
ink_none byte bytes blank = rw blank refl

-- a token of one byte, with a blank behind it
one_byte : (at byte next : ℕ) (bytes : List ℕ) → is_blank byte ≡ false → is_blank next ≡ true
    → tokens_from at (byte ∷ next ∷ bytes) ≡ record { at = at; text = byte ∷ [] } ∷ tokens_from (at + 1) (next ∷ bytes)
one_byte at byte next bytes ink blank =
    let start : StartsFrom (at + 2) (tokens_from (at + 1 + 1) bytes) = subst (λ k. StartsFrom k (tokens_from (at + 1 + 1) bytes)) (omega arith) (tokens_start (at + 1 + 1) bytes) in
    with_ink at byte (next ∷ bytes) ink
    ∙ ap (with_byte at byte) (with_blank (at + 1) next bytes blank)
    ∙ with_byte_apart at byte (tokens_from (at + 1 + 1) bytes) start
    ∙ ap (λ (tokens : List Tok). record { at = at; text = byte ∷ [] } ∷ tokens) (sym (with_blank (at + 1) next bytes blank))

-- the first token, of so many bytes, and those behind it
pub token_first : (n at byte : ℕ) (bytes : List ℕ) (to : ℕ) → is_blank byte ≡ false → n ≡ prefix_len is_ink bytes → to ≡ at + 1 + n
    → tokens_from at (byte ∷ bytes) ≡ record { at = at; text = byte ∷ take n bytes } ∷ tokens_from to (drop n bytes)
token_first zero at byte [] to ink e te = with_ink at byte [] ink
token_first (suc n) at byte [] to ink e te = absurd (omega arith)
token_first n at byte (next ∷ bytes) to ink e te = by n (is_blank next) refl e te (λ m. token_first m (at + 1) next bytes to)
  where
    by : (n : ℕ) (b : Bool) → is_blank next ≡ b → n ≡ prefix_len is_ink (next ∷ bytes) → to ≡ at + 1 + n
        → ((m : ℕ) → is_blank next ≡ false → m ≡ prefix_len is_ink bytes → to ≡ at + 1 + 1 + m → tokens_from (at + 1) (next ∷ bytes) ≡ record { at = at + 1; text = next ∷ take m bytes } ∷ tokens_from to (drop m bytes))
        → tokens_from at (byte ∷ next ∷ bytes) ≡ record { at = at; text = byte ∷ take n (next ∷ bytes) } ∷ tokens_from to (drop n (next ∷ bytes))
    by zero true blank e te ih =
        let same : at + 1 ≡ to = omega arith in
        one_byte at byte next bytes ink blank ∙ ap (λ (k : ℕ). record { at = at; text = byte ∷ [] } ∷ tokens_from k (next ∷ bytes)) same
    by (suc n) true blank e te ih = absurd (omega (arith, ink_none next bytes blank))
    by zero false next_ink e te ih = absurd (omega (arith, ink_more next bytes next_ink))
    by (suc n) false next_ink e te ih =
        let len : n ≡ prefix_len is_ink bytes = omega (arith, ink_more next bytes next_ink) in
        with_ink at byte (next ∷ bytes) ink
        ∙ ap (with_byte at byte) (ih n next_ink len (omega arith))
        ∙ with_byte_onto at byte (next ∷ take n bytes) (tokens_from to (drop n bytes))

pub token_at : (bytes : List ℕ) (from to : ℕ) → from < length bytes → is_blank (get_or bytes from 0) ≡ false → to ≡ from + prefix_len is_ink (drop from bytes)
    → tokens_from from (drop from bytes) ≡ record { at = from; text = slice_range bytes from to } ∷ tokens_from to (drop to bytes)
token_at bytes from to within ink ends =
    let byte = get_or bytes from 0 in
    let rest = drop (from + 1) bytes in
    let n = prefix_len is_ink rest in
    let split = drop_more bytes from 0 within in
    let len : prefix_len is_ink (drop from bytes) ≡ suc n = ap (prefix_len is_ink) split ∙ ink_more byte rest ink in
    let place : to ≡ from + 1 + n = omega arith in
    let size : to - from ≡ suc n = omega arith in
    let text : slice_range bytes from to ≡ byte ∷ take n rest = ap (λ k. take k (drop from bytes)) size ∙ ap (take (suc n)) split in
    let left : drop n rest ≡ drop to bytes = drop-drop n (from + 1) bytes ∙ ap (λ k. drop k bytes) (sym place) in
    ap (tokens_from from) split
    ∙ token_first n from byte rest to ink refl place
    ∙ ap (λ (t : List ℕ). record { at = from; text = t } ∷ tokens_from to (drop n rest)) (sym text)
    ∙ ap (λ (left : List ℕ). record { at = from; text = slice_range bytes from to } ∷ tokens_from to left) left

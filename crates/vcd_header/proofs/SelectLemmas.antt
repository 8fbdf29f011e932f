-- Selects, part by part.
use Rattle.std.proofs.Common.{◌≡◌, ℕ, ◌+◌, ◌-◌, ◌<◌, ◌≤◌, ◌==◌, ◌&&◌, suc, List, [], ◌∷◌, Bool, true, false, cond, length, take, drop, get_or, arith, None, refl, sym, ap, ◌∙◌}
use Rattle.std.specs.List.{position_or_len}
use Rattle.vcd_header.specs.Decimals.{small_number}
use Rattle.vcd_header.specs.Variables.{indices, is_colon, range_of, select_of}
use Rattle.vcd_header.proofs.ListLemmas.{any_within, none_within}

pub indices_parted : (text : List ℕ) (at : ℕ) → at ≡ position_or_len is_colon text → at < length text
    → indices text ≡ range_of (small_number (take at text)) (small_number (drop (at + 1) text))
indices_parted text at e within =
    rw (any_within is_colon text (omega arith)) (ap (λ k. range_of (small_number (take k text)) (small_number (drop (k + 1) text))) (sym e))

pub indices_alone : (text : List ℕ) (at : ℕ) → at ≡ position_or_len is_colon text → length text ≤ at
    → indices text ≡ range_of (small_number text) (small_number text)
indices_alone text at e past = rw (none_within is_colon text (omega arith)) refl

between_brackets : (byte : ℕ) (bytes : List ℕ) → byte ≡ 91 → (length bytes == 0) ≡ false → get_or bytes (length bytes - 1) 0 ≡ 93
    → select_of (byte ∷ bytes) ≡ indices (take (length bytes - 1) bytes)
between_brackets byte bytes first some last = rw (first, some, last) refl

pub select_parted : (text : List ℕ) → 2 ≤ length text → get_or text 0 0 ≡ 91 → get_or text (length text - 1) 0 ≡ 93
    → select_of text ≡ indices (take (length text - 1 - 1) (drop 1 text))
select_parted [] long first last = absurd (omega arith)
select_parted (byte ∷ []) long first last = absurd (omega arith)
select_parted (byte ∷ next ∷ rest) long first last =
    let bytes = next ∷ rest in
    let one : suc (length bytes) - 1 ≡ length bytes = omega arith in
    let before : length bytes - 1 ≡ length rest = omega arith in
    let at_end : get_or (byte ∷ bytes) (suc (length rest)) 0 ≡ 93 = ap (λ k. get_or (byte ∷ bytes) k 0) (sym one) ∙ last in
    let closed : get_or bytes (length bytes - 1) 0 ≡ 93 = ap (λ k. get_or bytes k 0) before ∙ at_end in
    let some : (length bytes == 0) ≡ false = grind arith in
    between_brackets byte bytes first some closed ∙ ap (λ k. indices (take (k - 1) bytes)) (sym one)

-- Fewer than two bytes are no select, and neither are others between other bytes.
pub select_short : (text : List ℕ) → length text < 2 → select_of text ≡ None
select_short [] short = refl
select_short (byte ∷ []) short = by (byte == 91)
  where
    by : (b : Bool) → cond (b && false && get_or [] (0 - 1) 0 == 93) (indices (take (0 - 1) [])) None ≡ None
    by true = refl
    by false = refl
select_short (byte ∷ next ∷ rest) short = absurd (omega arith)

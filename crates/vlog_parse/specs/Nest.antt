-- How deep tokens nest. At a token the count is the sum of three: what is open, the operators since the last `;`, and
-- each `if` since the last `always`.
use Rattle.std.specs.Prelude.{ℕ, ◌+◌, ◌-◌, nat_lt, List, [], ◌∷◌, ◌++◌, codes, Option, Some, None, if◌then◌else◌}
use Rattle.std.specs.List.{fold}
use Rattle.std.specs.Str.{bytes_eq}
use Rattle.vlog_tokens.specs.Toks.{Tok}
use Rattle.vlog_words.specs.Words.{is_text_among}
use Rattle.vlog_tree.specs.Spelling.Parts.{terminal}

-- what opens
unfoldable pub openings : List (List ℕ)
openings = codes "(" ∷ codes "{" ∷ codes "begin" ∷ []

-- what closes one if any is open
unfoldable pub closings : List (List ℕ)
closings = codes ")" ∷ codes "}" ∷ codes "end" ∷ []

-- the operators that count
unfoldable pub operators : List (List ℕ)
operators =
    codes "~" ∷ codes "!" ∷ codes "&" ∷ codes "|" ∷ codes "^" ∷ codes "&&" ∷ codes "||" ∷ codes "==" ∷ codes "!="
    ∷ codes "~&" ∷ codes "~|" ∷ codes "~^" ∷ codes "^~" ∷ codes "?" ∷ []

-- how many are open after the reserved word or mark
abbrev pub open_after : ℕ → List ℕ → ℕ
open_after count text =
    if is_text_among openings text then count + 1 else (if is_text_among closings text then count - 1 else count)

-- how many operators there are after it since the last `;`
abbrev pub operators_after : ℕ → List ℕ → ℕ
operators_after count text =
    if bytes_eq text (codes ";") then 0 else (if is_text_among operators text then count + 1 else count)

-- how many `if` there are after it since the last `always`
abbrev pub ifs_after : ℕ → List ℕ → ℕ
ifs_after count text =
    if bytes_eq text (codes "always") then 0 else (if bytes_eq text (codes "if") then count + 1 else count)

-- one of these counts over all tokens
abbrev pub counted : (ℕ → List ℕ → ℕ) → List Tok → ℕ
counted after ts = fold (λ count tok. after count (terminal tok)) 0 ts

-- the count at the last of these tokens, which is counted too
unfoldable pub nest_count : List Tok → ℕ
nest_count ts = counted open_after ts + counted operators_after ts + counted ifs_after ts

-- the place of the first token, after those of the front, at which the count passes 500
unfoldable pub too_deep_after : List Tok → List Tok → Option ℕ
too_deep_after front [] = None
too_deep_after front (tok ∷ rest) =
    if nat_lt 500 (nest_count (front ++ tok ∷ [])) then Some tok.at else too_deep_after (front ++ tok ∷ []) rest

-- the place of the first token at which it does
abbrev pub too_deep_at : List Tok → Option ℕ
too_deep_at ts = too_deep_after [] ts

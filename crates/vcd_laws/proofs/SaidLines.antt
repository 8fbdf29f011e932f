-- What the lines of a body say.
use Rattle.std.proofs.Common.{◌≡◌, ℕ, ◌+◌, ◌^◌, ◌<◌, List, [], ◌∷◌, ◌++◌, Bool, true, Option, None, Some, codes, length, map, append_assoc, append-nil, arith, refl, subst, sym, ap, ◌∙◌}
use Rattle.std.specs.Char.{is_ascii_graphic}
use Rattle.std.specs.List.{list_all}
use Rattle.std.proofs.lemmas.Grind.{flat_map-append}
use Rattle.bm_base.specs.declared.range.Range.{Range}
use Rattle.vcd_header.specs.Tokens.{Tok, is_ink, tokens_from}
use Rattle.vcd_reader.specs.Body.{Item, items, with_code}
use Rattle.vcd_reader.specs.Body.Item.{time}
use Rattle.vcd_reader.proofs.BodyLemmas.{items_by, items_first}
use Rattle.vcd_writer.specs.Code.{code_of}
use Rattle.vcd_writer.specs.Line.{text_of}
use Rattle.vcd_writer.specs.Value.{bit_digits, scalar_line, value_line}
use Rattle.vcd_writer.specs.Waveform.{time_line}
use Rattle.trace_rows.specs.Writable.{HasWidth}
use Rattle.vcd_laws.proofs.Joint.{bare, scalar_item, value_item}
use Rattle.vcd_laws.proofs.TextTokens.{AreRuns, is_run, line_tokens, placed, spaced, tok_at}
use Rattle.vcd_laws.proofs.SaidForms.{all_weaker, code_has_bytes, code_is_graphic, graphic_is_ink, scalar_is, scalar_is_ink, time_is, time_is_ink, vector_is, vector_is_ink}

-- what text says that starts at this place, places aside
abbrev pub saying : ℕ → List ℕ → List Item
saying at text = map bare (items (tokens_from at text))

-- These lines say these items, wherever they start, and then comes what the text behind them says.
pub record LinesSay (lines : List (List ℕ)) (said : List Item) : Type 0 where
  pub says : (rest : List ℕ) (after : List Item) → ((to : ℕ) → saying to rest ≡ after) → (at : ℕ) → saying at (text_of lines ++ rest) ≡ said ++ after

pub nothing_says : LinesSay [] []
nothing_says = record { says = λ rest after holds at. holds at }

pub both_say : {lines more : List (List ℕ)} {said further : List Item} → LinesSay lines said → LinesSay more further → LinesSay (lines ++ more) (said ++ further)
both_say {lines} {more} {said} {further} first second = record {
  says = λ rest after holds at.
      ap (λ text. saying at (text ++ rest)) (flat_map-append (λ line. line ++ codes "\n") lines more)
      ∙ ap (saying at) (append_assoc (text_of lines) (text_of more) rest)
      ∙ first.says (text_of more ++ rest) (further ++ after) (second.says rest after holds) at
      ∙ sym (append_assoc said further after);
}

-- one line, which is these words
line_says : (words : List (List ℕ)) (said : List Item) → AreRuns words
    → ((at : ℕ) (tokens : List Tok) → map bare (items (placed at words ++ tokens)) ≡ said ++ map bare (items tokens))
    → LinesSay (spaced words ∷ []) said
line_says words said runs says = record {
  says = λ rest after holds at.
      let to = at + length (spaced words) + 1 in
      ap (λ text. saying at (text ++ rest)) (append-nil (spaced words ++ 10 ∷ []))
      ∙ ap (saying at) (append_assoc (spaced words) (10 ∷ []) rest)
      ∙ ap (λ tokens. map bare (items tokens)) (line_tokens at words rest runs)
      ∙ says at (tokens_from to rest)
      ∙ ap (λ later. said ++ later) (holds to);
}

word_says : (word : List ℕ) (said : List Item) → is_run word ≡ true
    → ((at : ℕ) (tokens : List Tok) → map bare (items (tok_at at word ∷ tokens)) ≡ said ++ map bare (items tokens))
    → LinesSay (word ∷ []) said
word_says word said run says =
    subst (λ line. LinesSay (line ∷ []) said) (append-nil word) (line_says (word ∷ []) said (run, tt) says)

-- ---- each kind of line

pub time_says : (now : ℕ) → now < 2 ^ 64 → LinesSay (time_line now ∷ []) (time 0 now ∷ [])
time_says now small =
    word_says (time_line now) (time 0 now ∷ []) (time_is_ink now small)
    (λ at tokens.
    let token = tok_at at (time_line now) in
    ap (map bare) (items_first token tokens)
    ∙ ap (λ form. map bare (items_by form token tokens)) (time_is now small))

pub dumpvars_says : LinesSay (codes "$dumpvars" ∷ []) []
dumpvars_says =
    word_says (codes "$dumpvars") [] refl
    (λ at tokens. ap (map bare) (items_first (tok_at at (codes "$dumpvars")) tokens))

pub end_says : LinesSay (codes "$end" ∷ []) []
end_says =
    word_says (codes "$end") [] refl (λ at tokens. ap (map bare) (items_first (tok_at at (codes "$end")) tokens))

run_from : (text : List ℕ) → 0 < length text → list_all is_ink text ≡ true → is_run text ≡ true
run_from [] some ink = absurd (omega arith)
run_from (byte ∷ text) some ink = ink

module _ (code : List ℕ) (graphic : list_all is_ascii_graphic code ≡ true) (some : 0 < length code) where
  pub scalar_says : (bit : Bool) → LinesSay (scalar_line bit code ∷ []) (scalar_item code bit ∷ [])
  scalar_says bit =
      word_says (scalar_line bit code) (scalar_item code bit ∷ []) (scalar_is_ink bit code graphic)
      (λ at tokens.
      let token = tok_at at (scalar_line bit code) in
      ap (map bare) (items_first token tokens)
      ∙ ap (λ form. map bare (items_by form token tokens)) (scalar_is bit code some))

  code_runs : is_run code ≡ true
  code_runs = run_from code some (all_weaker is_ascii_graphic is_ink graphic_is_ink code graphic)

  coded_says : (at : ℕ) (bits : List Bool) (tokens : List Tok)
      → map bare (with_code (tok_at at (98 ∷ bit_digits bits)) (placed (at + length (98 ∷ bit_digits bits) + 1) (code ∷ []) ++ tokens))
      ≡ value_item code bits ∷ map bare (items tokens)
  coded_says at bits tokens = rw graphic refl

  pub vector_says : (range : Range) (bits : List Bool) → 0 < length bits → LinesSay (value_line (Some range) bits code ∷ []) (value_item code bits ∷ [])
  vector_says range bits long =
      let value = 98 ∷ bit_digits bits in
      let line : value ++ 32 ∷ (code ++ []) ≡ value_line (Some range) bits code =
      ap (λ text. value ++ 32 ∷ text) (append-nil code) ∙ sym (append_assoc value (32 ∷ []) code) in
      subst (λ line. LinesSay (line ∷ []) (value_item code bits ∷ [])) line
      (line_says (value ∷ code ∷ []) (value_item code bits ∷ []) (vector_is_ink bits, (code_runs, tt))
      (λ at tokens.
      let token = tok_at at value in
      let later = placed (at + length value + 1) (code ∷ []) ++ tokens in
      ap (map bare) (items_first token later)
      ∙ ap (λ form. map bare (items_by form token later)) (vector_is bits long)
      ∙ coded_says at bits tokens))

pub value_says : (range : Option Range) (width number : ℕ) (bits : List Bool) → HasWidth range width → length bits ≡ width
    → LinesSay (value_line range bits (code_of number) ∷ []) (value_item (code_of number) bits ∷ [])
value_says None width number [] has long = absurd (omega arith)
value_says None width number (bit ∷ []) has long = scalar_says (code_of number) (code_is_graphic number) (code_has_bytes number) bit
value_says None width number (bit ∷ next ∷ bits) has long = absurd (omega arith)
value_says (Some range) width number bits has long =
    vector_says (code_of number) (code_is_graphic number) (code_has_bytes number) range bits (omega (arith, has.0))

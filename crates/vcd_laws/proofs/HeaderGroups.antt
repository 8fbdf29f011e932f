-- The header's lines as groups of tokens, one at a time.
use Rattle.std.proofs.Common.{◌≡◌, ℕ, ◌+◌, List, [], ◌∷◌, ◌++◌, true, false, codes, length, map, None, refl, sym, ap, ◌∙◌}
use Rattle.std.specs.List.{after_first, before_first, list_any, onto_first}
use Rattle.std.specs.Str.{bytes_eq}
use Rattle.std.proofs.lemmas.List.{append_assoc}
use Rattle.vcd_header.specs.Declares.{Declared, declared_behind, declared_by_groups, declared_with}
use Rattle.vcd_header.specs.Header.{begins_section, fault_within, form_fault, group_fault, header_fault}
use Rattle.vcd_header.specs.Sections.{body, group_rest, groups, header, is_end}
use Rattle.vcd_header.specs.Tokens.{Tok}
use Rattle.vcd_header.proofs.GroupLemmas.{groups_end, groups_first, has_ended, has_read_nothing}
use Rattle.vcd_header.proofs.HeaderLemmas.{declared_inside, within_form}
use Rattle.vcd_header.proofs.HeaderSteps.{HasDone, done_more, groups_declare}
use Rattle.vcd_header.proofs.ListLemmas.{after_more, after_now, any_more, any_now, before_more, before_now}
use Rattle.vcd_laws.proofs.HeaderLines.{AreInside, AreSections, closed, end_word}
use Rattle.vcd_laws.proofs.TextTokens.{placed, placed_lines, spaced, tok_at}

-- the place behind a line
abbrev pub next : ℕ → List (List ℕ) → ℕ
next at words = at + length (spaced (closed words)) + 1

-- ---- a line's tokens, in front of others

closed_has_end : (at : ℕ) (words : List (List ℕ)) (rest : List Tok) → AreInside words → list_any is_end (placed at (closed words) ++ rest) ≡ true
closed_has_end at [] rest inside = any_now is_end (tok_at at end_word) rest refl
closed_has_end at (word ∷ words) rest ((run, other), inside) =
    let later = at + length word + 1 in
    any_more is_end (tok_at at word) (placed later (closed words) ++ rest) other ∙ closed_has_end later words rest inside

closed_inner : (at : ℕ) (words : List (List ℕ)) (rest : List Tok) → AreInside words → before_first is_end (placed at (closed words) ++ rest) ≡ placed at words
closed_inner at [] rest inside = before_now is_end (tok_at at end_word) rest refl
closed_inner at (word ∷ words) rest ((run, other), inside) =
    let later = at + length word + 1 in
    before_more is_end (tok_at at word) (placed later (closed words) ++ rest) other
    ∙ ap (λ tokens. tok_at at word ∷ tokens) (closed_inner later words rest inside)

closed_after : (at : ℕ) (words : List (List ℕ)) (rest : List Tok) → AreInside words → after_first is_end (placed at (closed words) ++ rest) ≡ rest
closed_after at [] rest inside = after_now is_end (tok_at at end_word) rest refl
closed_after at (word ∷ words) rest ((run, other), inside) =
    let later = at + length word + 1 in
    after_more is_end (tok_at at word) (placed later (closed words) ++ rest) other ∙ closed_after later words rest inside

-- ---- the groups of lines

abbrev pub line_groups : ℕ → List (List (List ℕ)) → List (List Tok)
line_groups at [] = []
line_groups at (words ∷ sections) = placed at (closed words) ∷ line_groups (next at words) sections

groups_onto : (token : Tok) (rest : List Tok) → is_end token ≡ false → groups (token ∷ rest) ≡ onto_first token (groups rest)
groups_onto token rest other = rw other refl

line_group : (at : ℕ) (words : List (List ℕ)) (rest : List Tok) → AreInside words → groups (placed at (closed words) ++ rest) ≡ placed at (closed words) ∷ groups rest
line_group at [] rest inside = groups_end (tok_at at end_word) rest refl
line_group at (word ∷ words) rest ((run, other), inside) =
    let later = at + length word + 1 in
    groups_onto (tok_at at word) (placed later (closed words) ++ rest) other
    ∙ ap (λ gs. onto_first (tok_at at word) gs) (line_group later words rest inside)

pub lines_groups : (at : ℕ) (sections : List (List (List ℕ))) (rest : List Tok) → AreSections sections
    → groups (placed_lines at (map closed sections) ++ rest) ≡ line_groups at sections ++ groups rest
lines_groups at [] rest are = refl
lines_groups at (words ∷ sections) rest (inside, are) =
    let later = placed_lines (next at words) (map closed sections) in
    ap groups (append_assoc (placed at (closed words)) later rest)
    ∙ line_group at words (later ++ rest) inside
    ∙ ap (λ gs. placed at (closed words) ∷ gs) (lines_groups (next at words) sections rest are)

-- ---- the header, line by line

pub begun : (whole : List Tok) → HasDone whole whole (record { path = []; scopes = []; variables = [] })
begun whole = record { before = []; read = has_read_nothing whole; declares = refl }

module _ (whole rest : List Tok) (at : ℕ) (word : List ℕ) (words : List (List ℕ)) (lines : List (List (List ℕ))) (old new : Declared) where
  abbrev first : Tok
  first = tok_at at word

  abbrev inside_at : ℕ
  inside_at = at + length word + 1

  abbrev pub front_of : List Tok
  front_of = placed_lines at (closed (word ∷ words) ∷ lines) ++ rest

  abbrev left : List Tok
  left = placed_lines (next at (word ∷ words)) lines ++ rest

  abbrev behind : List Tok
  behind = placed inside_at (closed words) ++ left

  is_front : front_of ≡ first ∷ behind
  is_front = append_assoc (placed at (closed (word ∷ words))) (placed_lines (next at (word ∷ words)) lines) rest

  no_fault : AreInside (word ∷ words) → begins_section word ≡ true → form_fault old.variables old.path first (placed inside_at words) ≡ None
      → fault_within old.variables old.path (first ∷ group_rest behind) ≡ None
  no_fault ((run, other), inside) begins none =
      within_form old.variables old.path first behind other begins (closed_has_end inside_at words left inside)
      ∙ ap (form_fault old.variables old.path first) (closed_inner inside_at words left inside)
      ∙ none

  declares_more : AreInside (word ∷ words) → new ≡ declared_with old first (placed inside_at words) → new ≡ declared_behind old (first ∷ group_rest behind)
  declares_more ((run, other), inside) declares =
      declares
      ∙ ap (declared_with old first) (sym (closed_inner inside_at words left inside))
      ∙ sym (declared_inside old first behind)

  -- one line more
  pub line_more : HasDone whole front_of old → AreInside (word ∷ words) → begins_section word ≡ true
      → form_fault old.variables old.path first (placed inside_at words) ≡ None
      → new ≡ declared_with old first (placed inside_at words)
      → bytes_eq word (codes "$enddefinitions") ≡ false
      → HasDone whole left new
  line_more done inside begins none declares goes_on =
      done_more whole front_of behind left first old new done is_front (no_fault inside begins none)
      (declares_more inside declares) (sym (closed_after inside_at words left inside.1)) goes_on

  -- the last line
  pub record IsLast (size : ℕ) : Type 0 where
    pub faultless : header_fault size whole ≡ None
    pub declares : declared_by_groups (header whole) ≡ new
    pub behind_it : body whole ≡ left
    pub all_groups : groups whole ≡ header whole ++ groups left

  pub line_last : (size : ℕ) → HasDone whole front_of old → AreInside (word ∷ words) → begins_section word ≡ true
      → form_fault old.variables old.path first (placed inside_at words) ≡ None
      → new ≡ declared_with old first (placed inside_at words)
      → bytes_eq word (codes "$enddefinitions") ≡ true
      → IsLast size
  line_last size done inside begins none declares last =
      let group = first ∷ group_rest behind in
      let other : is_end first ≡ false = inside.0.1 in
      let left_is = closed_after inside_at words left inside.1 in
      let parts : groups front_of ≡ group ∷ groups left =
      ap groups is_front ∙ groups_first first behind other ∙ ap (λ left. group ∷ groups left) left_is in
      let here : group_fault done.before group ≡ None =
      ap (λ (d : Declared). fault_within d.variables d.path group) (sym done.declares) ∙ no_fault inside begins none in
      let ended = has_ended size whole done.before front_of group left done.read parts here last in
      record {
        faultless = ended.faultless;
        declares =
            ap declared_by_groups ended.whole_header
            ∙ groups_declare done.before group
            ∙ ap (λ (d : Declared). declared_behind d group) (sym done.declares)
            ∙ sym (declares_more inside declares);
        behind_it = ended.body_behind;
        all_groups =
            done.read.parts
            ∙ ap (λ gs. done.before ++ gs) parts
            ∙ sym (append_assoc done.before (group ∷ []) (groups left))
            ∙ ap (λ gs. gs ++ groups left) (sym ended.whole_header);
      }

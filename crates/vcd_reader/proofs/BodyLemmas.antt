-- The items of a body, token by token.
use Rattle.std.proofs.Common.{◌≡◌, List, [], ◌∷◌, Bool, true, false, drop, take, if◌then◌else◌, refl, sym, ap, ◌∙◌}
use Rattle.std.specs.List.{after_first}
use Rattle.vcd_reader.specs.declared.form.Form.{Form}
use Rattle.vcd_reader.specs.declared.form.Form.TheVariants.{Time, Scalar, Vector, Real, Passed, Section, Wrong}
use Rattle.vcd_reader.specs.Body.{Item, behind_end, form_of, items, with_code, without_code}
use Rattle.vcd_reader.specs.Body.Item.{time, change, misplaced, unfinished}
use Rattle.vcd_header.specs.Sections.{is_closed, is_end}
use Rattle.vcd_header.specs.Tokens.{Tok}
use Rattle.vcd_header.proofs.ListLemmas.{after_more, after_now, any_more, any_now}

-- the items of a token of this form and of those behind it
abbrev pub items_by : Form → Tok → List Tok → List Item
items_by (Time value) token tokens = time token.at value ∷ items tokens
items_by Scalar token tokens = change token.at (drop 1 token.text) (take 1 token.text) ∷ items tokens
items_by Vector token tokens = with_code token tokens
items_by Real token tokens = without_code token tokens
items_by Passed token tokens = items tokens
items_by Section token tokens = behind_end token tokens
items_by Wrong token tokens = misplaced token.at ∷ items tokens

pub items_first : (token : Tok) (tokens : List Tok) → items (token ∷ tokens) ≡ items_by (form_of token.text) token tokens
items_first token tokens = by (form_of token.text)
  where
    by : (form : Form) → elim form [
      | Time value ↦ time token.at value ∷ items tokens
      | Scalar ↦ change token.at (drop 1 token.text) (take 1 token.text) ∷ items tokens
      | Vector ↦ with_code token tokens
      | Real ↦ without_code token tokens
      | Passed ↦ items tokens
      | Section ↦ behind_end token tokens
      | Wrong ↦ misplaced token.at ∷ items tokens
    ] ≡ items_by form token tokens
    by (Time value) = refl
    by Scalar = refl
    by Vector = refl
    by Real = refl
    by Passed = refl
    by Section = refl
    by Wrong = refl

-- what stands behind a section that is skipped
pub behind_section : (section : Tok) (tokens : List Tok) → behind_end section tokens ≡ (if is_closed tokens then items (after_first is_end tokens) else unfinished section.at ∷ [])
behind_section section [] = refl
behind_section section (token ∷ tokens) = by (is_end token) refl (behind_section section tokens)
  where
    by : (b : Bool) → is_end token ≡ b → behind_end section tokens ≡ (if is_closed tokens then items (after_first is_end tokens) else unfinished section.at ∷ [])
        → (if b then items tokens else behind_end section tokens) ≡ (if is_closed (token ∷ tokens) then items (after_first is_end (token ∷ tokens)) else unfinished section.at ∷ [])
    by true is ih =
        sym (ap (λ closed. if closed then items (after_first is_end (token ∷ tokens)) else unfinished section.at ∷ []) (any_now is_end token tokens is)
        ∙ ap items (after_now is_end token tokens is))
    by false is ih =
        ih
        ∙ sym (ap (λ closed. if closed then items (after_first is_end (token ∷ tokens)) else unfinished section.at ∷ []) (any_more is_end token tokens is)
        ∙ ap (λ (left : List Tok). if is_closed tokens then items left else unfinished section.at ∷ []) (after_more is_end token tokens is))

-- What the tokens of a body say.
use Rattle.std.specs.Prelude.{ℕ, ◌^◌, ◌-◌, ◌==◌, ◌&&◌, ◌||◌, not, Bool, List, [], ◌∷◌, ◌++◌, codes, drop, length, take, Option, None, Some, if◌then◌else◌}
use Rattle.std.specs.List.{list_all, list_any}
use Rattle.std.specs.Str.{bytes_eq}
use Rattle.vcd_reader.specs.declared.form.Form.{Form}
use Rattle.vcd_reader.specs.declared.form.Form.TheVariants.{Time, Scalar, Vector, Real, Passed, Section, Wrong}
use Rattle.vcd_header.specs.Decimals.{number_up_to}
use Rattle.vcd_header.specs.Sections.{is_end}
use Rattle.vcd_header.specs.Tokens.{Tok}
use Rattle.vcd_header.specs.Variables.{is_code}

-- ---- the forms of tokens

-- `0 1 x X z Z`
abbrev pub is_digit : ℕ → Bool
is_digit byte = byte == 48 || byte == 49 || byte == 120 || byte == 88 || byte == 122 || byte == 90

-- `$dumpvars`, `$dumpall`, `$dumpon`, `$dumpoff` and `$end`, which are passed over
abbrev pub passed_words : List (List ℕ)
passed_words = codes "$dumpvars" ∷ codes "$dumpall" ∷ codes "$dumpon" ∷ codes "$dumpoff" ∷ codes "$end" ∷ []

abbrev pub is_passed : List ℕ → Bool
is_passed text = list_any (λ word. bytes_eq text word) passed_words

-- a time is a decimal below 2^64
abbrev pub time_form : Option ℕ → Form
time_form None = Wrong
time_form (Some time) = Time time

-- the form of a token with this first byte and these later ones
abbrev pub form_by : ℕ → List ℕ → Form
form_by first later =
    if first == 35 then time_form (number_up_to (2 ^ 64 - 1) later)
    else (if is_digit first && not (length later == 0) then Scalar
    else (if (first == 98 || first == 66) && (not (length later == 0) && list_all is_digit later) then Vector
    else (if first == 114 || first == 82 || first == 115 || first == 83 then Real
    else (if is_passed (first ∷ later) then Passed
    else (if first == 36 then Section
    else Wrong)))))

abbrev pub form_of : List ℕ → Form
form_of [] = Wrong
form_of (first ∷ later) = form_by first later

-- ---- what they say

pub data Item : Type 0 where
  -- a time
  time : (at value : ℕ) → Item
  -- a change: a code gets digits, the left one first
  change : (at : ℕ) (code digits : List ℕ) → Item
  -- a token that has no form where it stands
  misplaced : (at : ℕ) → Item
  -- a value without its code, or a section without its `$end`, at the file's end
  unfinished : (at : ℕ) → Item

-- a code's place: the code of the value that began at this place, if it is one
abbrev pub coded : ℕ → List ℕ → Tok → Item
coded at digits code = if is_code code.text then change at code.text digits else misplaced code.at

-- the code of a value that is skipped: nothing, if it is one
abbrev pub uncoded : Tok → List Item
uncoded code = if is_code code.text then [] else misplaced code.at ∷ []

-- what a body says, token by token: most say something by themselves, a value takes the next token as its code, and a
-- section takes all up to the next `$end`
abbrev mutual
  pub items : List Tok → List Item
  items [] = []
  items (token ∷ tokens) = elim (form_of token.text) [
    | Time value ↦ time token.at value ∷ items tokens
    | Scalar ↦ change token.at (drop 1 token.text) (take 1 token.text) ∷ items tokens
    | Vector ↦ with_code token tokens
    | Real ↦ without_code token tokens
    | Passed ↦ items tokens
    | Section ↦ behind_end token tokens
    | Wrong ↦ misplaced token.at ∷ items tokens
  ]

  pub with_code : Tok → List Tok → List Item
  with_code value [] = unfinished value.at ∷ []
  with_code value (code ∷ tokens) = coded value.at (drop 1 value.text) code ∷ items tokens

  pub without_code : Tok → List Tok → List Item
  without_code value [] = unfinished value.at ∷ []
  without_code value (code ∷ tokens) = uncoded code ++ items tokens

  pub behind_end : Tok → List Tok → List Item
  behind_end section [] = unfinished section.at ∷ []
  behind_end section (token ∷ tokens) = if is_end token then items tokens else behind_end section tokens

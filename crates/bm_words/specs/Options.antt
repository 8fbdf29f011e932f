-- The options of a command line, each of two words.
use Rattle.std.specs.Prelude.{◌≡◌, ℕ, ◌≤◌, Bool, true, false, List, [], ◌∷◌, ◌++◌, length, codes, Option, None, Some}
use Rattle.std.specs.Option.{option_map}
use Rattle.std.specs.Str.Parse.{IsNumeral, digits_value}
use Rattle.bm_words.specs.Names.{TopNames}

-- the options that are always given, in their order
abbrev pub required_options : List ℕ → List ℕ → List ℕ → List (List ℕ)
required_options top clock check = codes "--top" ∷ top ∷ codes "--clock" ∷ clock ∷ codes "--check" ∷ check ∷ []

-- an option that may be missing: its own word, and what it is given
abbrev pub option_words : List ℕ → Option (List ℕ) → List (List ℕ)
option_words option None = []
option_words option (Some value) = option ∷ value ∷ []

-- the options that may be missing, in their order
abbrev pub further_options : Option (List ℕ) → Option (List ℕ) → Option (List ℕ) → List (List ℕ)
further_options reset cycles scope =
    option_words (codes "--reset") reset
    ++ (option_words (codes "--reset-cycles") cycles ++ option_words (codes "--scope") scope)

-- the digit of a value
abbrev pub level : Bool → List ℕ
level false = codes "0"
level true = codes "1"

-- What a reset is given by: its name, `=` and its value where it is active. The value has no `=`, so it stands behind
-- the last one; the name may have some.
abbrev pub reset_text : List ℕ × Bool → List ℕ
reset_text reset = reset.0 ++ (codes "=" ++ level reset.1)

-- The text is one to ten decimal digits, and writes the number.
pub record IsDecimal (text : List ℕ) (number : ℕ) : Type 0 where
  pub digits : IsNumeral 10 text
  pub short : length text ≤ 10
  pub value : digits_value 10 text ≡ number

-- The reset is held for as many cycles as its option gives, or for one where there is no such option.
abbrev pub IsCycles : Option (List ℕ) → ℕ → Type 0
IsCycles None number = number ≡ 1
IsCycles (Some text) number = IsDecimal text number

-- The words are options that give these names and this scope: those that are always given, and behind them those that
-- may be missing, where the number of reset cycles has more than one spelling.
pub record AreOptions (words : List (List ℕ)) (names : TopNames) (scope : Option (List ℕ)) : Type 0 where
  pub cycles : Option (List ℕ)
  pub number : IsCycles cycles names.reset_cycles
  pub same : words ≡ required_options names.top names.clock names.check
      ++ further_options (option_map reset_text names.reset) cycles scope

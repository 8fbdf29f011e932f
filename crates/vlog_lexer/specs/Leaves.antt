-- What is left of the tokens read so far.
use Rattle.std.specs.Prelude.{◌≡◌, ℕ, ◌++◌, true, false, List, [], ◌∷◌, length, Option, Some, None}
use Rattle.std.specs.List.{list_any}
use Rattle.vlog_tokens.specs.Attributes.{closes, opens, without_attributes}
use Rattle.vlog_tokens.specs.Toks.{Tok}

-- No attribute is open, or one is: its `(*` has this number among the tokens that are left, and no token after it
-- closes it.
abbrev pub IsOpen : Option ℕ → List Tok → List Tok → Type 0
IsOpen None before pending = pending ≡ []
IsOpen (Some n) before pending =
    (first : Tok) × (rest : List Tok) × (n ≡ length before) × (pending ≡ first ∷ rest) × (opens first ≡ true)
    × (list_any closes rest ≡ false)

-- Of the tokens so far these are left, the last of them from an open `(*` on, if there is one.
pub record Leaves (raw left : List Tok) (opened : Option ℕ) : Type 0 where
  pub before : List Tok
  pub pending : List Tok
  pub parts : left ≡ before ++ pending
  pub same : (later : List Tok) → without_attributes (raw ++ later) ≡ before ++ without_attributes (pending ++ later)
  pub state : IsOpen opened before pending

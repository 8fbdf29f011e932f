-- The tokens of a source.
use Rattle.std.specs.Prelude.{◌≡◌, ℕ, ◌+◌, ◌<◌, ◌≤◌, List, [], ◌∷◌, ◌++◌, length, slice_range}
use Rattle.vlog_tokens.specs.Attributes.{without_attributes}
use Rattle.vlog_tokens.specs.Forms.{IsPiece}
use Rattle.vlog_tokens.specs.Rows.{row_at}
use Rattle.vlog_tokens.specs.Toks.{Tok}
use Rattle.vlog_tokens.specs.declared.row.Row.{Row}
use Rattle.vlog_tokens.specs.declared.row.Row.TheVariants.{Token}

-- the token between two places, if the first begins one
abbrev pub token_of : Row → ℕ → List ℕ → List Tok
token_of (Token kind) at text = record { kind = kind; at = at; text = text } ∷ []
token_of _ at text = []

-- Between two places stand pieces one after another, which end at these places.
abbrev pub ArePieces : List ℕ → ℕ → List ℕ → ℕ → Type 0
ArePieces source from [] to = from ≡ to
ArePieces source from (mid ∷ ends) to = IsPiece source from mid × ArePieces source mid ends to

-- the tokens among pieces that end at these places
abbrev pub tokens_of : List ℕ → ℕ → List ℕ → List Tok
tokens_of source from [] = []
tokens_of source from (mid ∷ ends) =
    token_of (row_at source from) from (slice_range source from mid) ++ tokens_of source mid ends

-- The source is pieces one after another, and these are its tokens without those of attributes.
pub record AreTokens (source : List ℕ) (tokens : List Tok) : Type 0 where
  pub ends : List ℕ
  pub pieces : ArePieces source 0 ends (length source)
  pub kept : tokens ≡ without_attributes (tokens_of source 0 ends)

-- A source has one list of tokens at most.
abbrev pub IsOneTokenList : Type 0
IsOneTokenList = (source : List ℕ) (ts us : List Tok) → AreTokens source ts → AreTokens source us → ts ≡ us

-- From this place on these tokens stand in the source, in order and without overlap, each with some bytes, the source's
-- from its place on.
abbrev pub AreInOrder : List ℕ → ℕ → List Tok → Type 0
AreInOrder source from [] = Unit {0}
AreInOrder source from (token ∷ tokens) =
    (from ≤ token.at) × (0 < length token.text) × (token.at + length token.text ≤ length source)
    × (token.text ≡ slice_range source token.at (token.at + length token.text))
    × AreInOrder source (token.at + length token.text) tokens

-- The tokens of a source stand in it, in order and without overlap.
abbrev pub IsOrdered : Type 0
IsOrdered = (source : List ℕ) (tokens : List Tok) → AreTokens source tokens → AreInOrder source 0 tokens

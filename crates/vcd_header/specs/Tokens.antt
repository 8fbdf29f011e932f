-- The tokens of a waveform: runs of bytes that are not blank.
use Rattle.std.specs.Prelude.{ℕ, ◌+◌, ◌==◌, ◌||◌, not, Bool, List, [], ◌∷◌, if◌then◌else◌}
use Rattle.std.specs.Int.{is_in_range}
use Rattle.vcd_header.specs.declared.token.Token.{Token}

-- a token: the byte that it starts at, and its bytes
pub record Tok : Type 0 where
  pub at : ℕ
  pub text : List ℕ

abbrev pub tok_of : Token → Tok
tok_of token = record { at = token.at; text = token.text.now }

-- a space, a tab, a newline, a vertical tab, a form feed or a carriage return
abbrev pub is_blank : ℕ → Bool
is_blank byte = byte == 32 || is_in_range 9 13 byte

-- whether it is part of a token
abbrev pub is_ink : ℕ → Bool
is_ink byte = not (is_blank byte)

-- the tokens with one more byte in front: it belongs to the token that starts directly after it, if one does, and
-- else is a token by itself
abbrev pub with_byte : ℕ → ℕ → List Tok → List Tok
with_byte at byte [] = record { at = at; text = byte ∷ [] } ∷ []
with_byte at byte (token ∷ tokens) =
    if token.at == at + 1 then (record { at = at; text = byte ∷ token.text } ∷ tokens)
    else (record { at = at; text = byte ∷ [] } ∷ token ∷ tokens)

-- the tokens of the bytes that start at this place
abbrev pub tokens_from : ℕ → List ℕ → List Tok
tokens_from at [] = []
tokens_from at (byte ∷ bytes) =
    if is_blank byte then tokens_from (at + 1) bytes else with_byte at byte (tokens_from (at + 1) bytes)

abbrev pub tokens : List ℕ → List Tok
tokens bytes = tokens_from 0 bytes

-- The tables of marks and of directives.
use Rattle.std.specs.Prelude.{ℕ, List, [], ◌∷◌, codes}

-- punctuation and operators, first those of two bytes
unfoldable pub marks : List (List ℕ)
marks =
    codes "(*" ∷ codes "*)" ∷ codes "<=" ∷ codes "==" ∷ codes "!=" ∷ codes "&&" ∷ codes "||" ∷ codes "~&" ∷
    codes "~|" ∷ codes "~^" ∷ codes "^~" ∷ codes "(" ∷ codes ")" ∷ codes "[" ∷ codes "]" ∷ codes "{" ∷
    codes "}" ∷ codes "," ∷ codes ";" ∷ codes ":" ∷ codes "." ∷ codes "#" ∷ codes "@" ∷ codes "=" ∷ codes "?" ∷
    codes "~" ∷ codes "!" ∷ codes "&" ∷ codes "|" ∷ codes "^" ∷ codes "<" ∷ codes ">" ∷ codes "+" ∷ codes "-" ∷
    codes "*" ∷ codes "/" ∷ codes "%" ∷ []

-- the words that make the rest of the line blank, directly after a backquote
unfoldable pub directives : List (List ℕ)
directives =
    codes "timescale" ∷ codes "celldefine" ∷ codes "endcelldefine" ∷ codes "resetall" ∷
    codes "default_nettype" ∷ []

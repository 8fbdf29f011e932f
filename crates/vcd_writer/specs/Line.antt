-- Text by lines.
use Rattle.std.specs.Prelude.{ℕ, List, ◌++◌, codes, flat_map}

-- the lines, each with a newline at its end
abbrev pub text_of : List (List ℕ) → List ℕ
text_of lines = flat_map (λ line. line ++ codes "\n") lines

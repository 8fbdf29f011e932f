-- The scopes that a header opens.
use Rattle.std.specs.Prelude.{ℕ, ◌-◌, ◌==◌, Bool, List, [], ◌∷◌, ◌++◌, codes, length, take, if◌then◌else◌}
use Rattle.std.specs.List.{fold, join_with_byte}
use Rattle.std.specs.Str.{bytes_eq}
use Rattle.std.specs.Cmp.Lexicographic.{pointwise}
use Rattle.vcd_header.specs.Tokens.{Tok}
use Rattle.vcd_header.specs.Sections.{begins_with, inner, is_word}

-- a scope: its name behind the names of the scopes that it stands in
abbrev pub Path : Type 0
Path = List (List ℕ)

abbrev pub same_path : Path → Path → Bool
same_path left right = pointwise bytes_eq left right

-- the names joined by dots
abbrev pub dotted : Path → List ℕ
dotted path = join_with_byte 46 path

-- the text without the backslash that it begins with, if it does
abbrev pub without_backslash : List ℕ → List ℕ
without_backslash [] = []
without_backslash (byte ∷ bytes) = if byte == 92 then bytes else byte ∷ bytes

-- the scope that a `$scope` with these tokens opens: a type and a name
abbrev pub scope_within : Path → List Tok → Path
scope_within path (kind ∷ name ∷ []) = path ++ without_backslash name.text ∷ []
scope_within path other = path

-- the scope around it
abbrev pub parent : Path → Path
parent path = take (length path - 1) path

-- the scope behind a section with this first token and these up to its `$end`, which stands in this one
abbrev pub scope_by : Path → Tok → List Tok → Path
scope_by path first inside =
    if is_word (codes "$scope") first then scope_within path inside
    else (if is_word (codes "$upscope") first then parent path
    else path)

-- the scope behind a group
abbrev pub scope_after : Path → List Tok → Path
scope_after path [] = path
scope_after path (first ∷ rest) = scope_by path first (inner rest)

-- the scope behind all these groups
abbrev pub scope_of : List (List Tok) → Path
scope_of groups = fold scope_after [] groups

-- the scopes that groups open, in their order, where the first stands in this one
abbrev pub opened_from : Path → List (List Tok) → List Path
opened_from path [] = []
opened_from path (group ∷ groups) =
    (if begins_with (codes "$scope") group then scope_after path group ∷ [] else []) ++ opened_from
    (scope_after path group) groups

abbrev pub scopes : List (List Tok) → List Path
scopes groups = opened_from [] groups

-- The variables that a header declares.
use Rattle.std.specs.Prelude.{ℕ, ◌-◌, ◌==◌, ◌&&◌, not, Bool, List, [], ◌∷◌, ◌++◌, codes, drop, length, nat_lt, slice_index, take, Option, None, Some, if◌then◌else◌}
use Rattle.std.specs.Char.{is_ascii_graphic}
use Rattle.std.specs.List.{after_first, before_first, before_last, find, flat_map, list_all, list_any}
use Rattle.std.specs.Option.{option_map}
use Rattle.std.specs.Str.{bytes_eq}
use Rattle.bm_base.specs.declared.range.Range.{Range}
use Rattle.vcd_header.specs.declared.select.Select.{Select}
use Rattle.vcd_header.specs.declared.select.Select.TheVariants.{Whole, Part, Other}
use Rattle.vcd_header.specs.Decimals.{small_number}
use Rattle.vcd_header.specs.Scopes.{Path, scope_after, without_backslash}
use Rattle.vcd_header.specs.Sections.{inner, is_word}
use Rattle.vcd_header.specs.Tokens.{Tok}

-- a variable: its scope, its name, what is said of its bits, its size and its code
pub record Variable : Type 0 where
  pub path : Path
  pub name : List ℕ
  pub select : Select
  pub size : ℕ
  pub code : List ℕ

-- ---- selects

-- the range of two numbers, if both are
abbrev pub range_of : Option ℕ → Option ℕ → Option Range
range_of (Some left) (Some right) = Some (record { left = left; right = right })
range_of left right = None

-- whether the byte is a colon
abbrev pub is_colon : ℕ → Bool
is_colon byte = byte == 58

-- the range between brackets: `m:l`, or `i`, which is `i:i`
abbrev pub indices : List ℕ → Option Range
indices text =
    if list_any is_colon text
    then range_of (small_number (before_first is_colon text)) (small_number (after_first is_colon text))
    else range_of (small_number text) (small_number text)

-- the range of a select: `[`, indices and `]`
abbrev pub select_of : List ℕ → Option Range
select_of [] = None
select_of (byte ∷ bytes) =
    if byte == 91 && not (length bytes == 0) && slice_index bytes (length bytes - 1) == 93
    then indices (take (length bytes - 1) bytes) else None

-- what the joined further tokens of a declaration say
abbrev pub select_by : Option Range → Select
select_by (Some range) = Part range
select_by None = Other

-- ---- names

-- whether the byte opens a select
abbrev pub is_bracket : ℕ → Bool
is_bracket byte = byte == 91

-- how many bytes stand before the last `[`
abbrev pub select_at : List ℕ → ℕ
select_at text = length (before_last is_bracket text)

-- a name with the select that it ends in, with something before it: the part before, with that select
abbrev pub parted : List ℕ → Option Range → List ℕ × Select
parted text (Some range) = if nat_lt 0 (select_at text) then (take (select_at text) text, Part range) else (text, Whole)
parted text None = (text, Whole)

-- the name and the select of a token, where no further tokens say more
abbrev pub named_alone : List ℕ → List ℕ × Select
named_alone [] = ([], Whole)
named_alone (byte ∷ bytes) =
    if byte == 92 then (bytes, Whole)
    else parted (byte ∷ bytes) (select_of (drop (select_at (byte ∷ bytes)) (byte ∷ bytes)))

-- the name and the select of a name's token and of the texts of further tokens
abbrev pub name_and_select : List ℕ → List Tok → List ℕ × Select
name_and_select name [] = named_alone name
name_and_select name (token ∷ tokens) =
    (without_backslash name, select_by (select_of (flat_map (λ (further : Tok). further.text) (token ∷ tokens))))

-- ---- declarations

-- printable bytes
abbrev pub is_code : List ℕ → Bool
is_code text = list_all is_ascii_graphic text

abbrev pub variable_of : Path → Tok → List ℕ × Select → ℕ → Variable
variable_of path code name size = record { path = path; name = name.0; select = name.1; size = size; code = code.text }

-- the variable that a `$var` with these tokens declares, if they have the form: a type, a size, a code, a name and
-- further tokens
abbrev pub declared_by : Path → List Tok → Option Variable
declared_by path (kind ∷ size ∷ code ∷ name ∷ further) =
    if is_code code.text then option_map (variable_of path code (name_and_select name.text further))
    (small_number size.text) else None
declared_by path other = None

-- the variable of a section with this first token and these up to its `$end`, in this scope
abbrev pub variable_by : Path → Tok → List Tok → Option Variable
variable_by path first inside = if is_word (codes "$var") first then declared_by path inside else None

-- the variable of a group
abbrev pub declared : Path → List Tok → Option Variable
declared path [] = None
declared path (first ∷ rest) = variable_by path first (inner rest)

abbrev pub one_or_none : Option Variable → List Variable
one_or_none None = []
one_or_none (Some variable) = variable ∷ []

-- the variables of groups, in their order, where the first stands in this scope
abbrev pub declared_from : Path → List (List Tok) → List Variable
declared_from path [] = []
declared_from path (group ∷ groups) = one_or_none (declared path group) ++ declared_from (scope_after path group) groups

abbrev pub variables : List (List Tok) → List Variable
variables groups = declared_from [] groups

-- the size with which a code was declared first
abbrev pub size_of : List Variable → List ℕ → Option ℕ
size_of variables code =
    option_map (λ (variable : Variable). variable.size) (find (λ variable. bytes_eq variable.code code) variables)

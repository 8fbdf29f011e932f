-- The header and the body: which tokens are of which.
use Rattle.std.specs.Prelude.{ℕ, ◌+◌, Bool, false, not, List, [], ◌∷◌, codes, drop, take, if◌then◌else◌}
use Rattle.std.specs.List.{before_first, flat_map, list_any, onto_first, position_or_len, prefix_len}
use Rattle.std.specs.Str.{bytes_eq}
use Rattle.vcd_header.specs.Tokens.{Tok}

-- whether the token is this word
abbrev pub is_word : List ℕ → Tok → Bool
is_word word token = bytes_eq token.text word

abbrev pub is_end : Tok → Bool
is_end token = is_word (codes "$end") token

-- the tokens parted behind each `$end`: each group but the last ends with one
abbrev pub groups : List Tok → List (List Tok)
groups [] = []
groups (token ∷ tokens) = if is_end token then (token ∷ []) ∷ groups tokens else onto_first token (groups tokens)

-- whether the group begins with this word
abbrev pub begins_with : List ℕ → List Tok → Bool
begins_with word [] = false
begins_with word (first ∷ rest) = is_word word first

-- whether it is the section that ends the header
abbrev pub ends_header : List Tok → Bool
ends_header group = begins_with (codes "$enddefinitions") group

-- how many groups stand before it
abbrev pub sections_before_end : List (List Tok) → ℕ
sections_before_end groups = prefix_len (λ group. not (ends_header group)) groups

-- the groups of the header: up to and with the section that ends it, or all where there is none
abbrev pub header : List Tok → List (List Tok)
header tokens = take (sections_before_end (groups tokens) + 1) (groups tokens)

-- whether there is a section that ends the header
abbrev pub has_header_end : List Tok → Bool
has_header_end tokens = list_any ends_header (groups tokens)

-- the tokens of the body: those behind the header
abbrev pub body : List Tok → List Tok
body tokens = flat_map (λ group. group) (drop (sections_before_end (groups tokens) + 1) (groups tokens))

-- whether the section that the first token begins has its `$end` among the later ones of its group
abbrev pub is_closed : List Tok → Bool
is_closed rest = list_any is_end rest

-- the tokens between the first and the `$end`
abbrev pub inner : List Tok → List Tok
inner rest = before_first is_end rest

-- the later tokens of a group: those up to and with the next `$end`, or all where there is none
abbrev pub group_rest : List Tok → List Tok
group_rest tokens = take (position_or_len is_end tokens + 1) tokens

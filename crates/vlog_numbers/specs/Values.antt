-- What a based token stands for.
use Rattle.std.specs.Prelude.{◌≡◌, ℕ, Bool, true, false, not, List, [], ◌∷◌, drop, if◌then◌else◌}
use Rattle.std.specs.Prelude.{Option, Some, None, Result, Ok, Err, option_map, option_and_then}
use Rattle.std.specs.List.{list_all}
use Rattle.vlog_tokens.specs.Toks.{Tok}
use Rattle.vlog_tokens.specs.declared.token.TokenKind.{TokenKind}
use Rattle.vlog_tokens.specs.declared.token.TokenKind.TheVariants.{Based}
use Rattle.vlog_tree.specs.Spelling.Numbers.{at_width, based_value}
use Rattle.vlog_numbers.specs.declared.fault.Fault.{Fault}
use Rattle.vlog_numbers.specs.declared.fault.Fault.TheVariants as fault

abbrev pub is_based_kind : TokenKind → Bool
is_based_kind Based = true
is_based_kind kind = false

abbrev pub based_by : TokenKind → List ℕ → Option (List Bool)
based_by Based text = based_value text
based_by kind text = None

-- the bits of the digits of a based token
abbrev pub based_of : Tok → Option (List Bool)
based_of tok = based_by tok.kind tok.text

-- the bits of a based token at a width
unfoldable pub sized_of : ℕ → Tok → Option (List Bool)
sized_of width tok = option_map (at_width width) (based_of tok)

-- the 32 bits of these, if those above are zeros
abbrev pub in_word : List Bool → Option (List Bool)
in_word bits = if list_all not (drop 32 bits) then Some (at_width 32 bits) else None

-- the 32 bits of a based token by itself
unfoldable pub unsized_of : Tok → Option (List Bool)
unsized_of tok = option_and_then in_word (based_of tok)

-- What a token means to a function on one token, unless memory fails.
abbrev pub Means : {A : Type 0} → Option A → Result A Fault → Type 0
Means meaning (Ok a) = meaning ≡ Some a
Means meaning (Err fault.Token) = meaning ≡ None
Means meaning (Err fault.Memory) = Unit {0}

-- whether the next token is based
abbrev pub sees_based : List Tok → Bool
sees_based [] = false
sees_based (tok ∷ rest) = is_based_kind tok.kind

-- What the next tokens are, which decides on the rule that reads them, and the next token itself.
use Rattle.std.specs.Prelude.{ℕ, ◌&&◌, Bool, true, false, is_some, List, [], ◌∷◌, Some, Ok, Err}
use Rattle.std.specs.Str.{bytes_eq}
use Rattle.vlog_tokens.specs.Toks.{Tok}
use Rattle.vlog_tokens.specs.declared.token.TokenKind.{TokenKind}
use Rattle.vlog_tokens.specs.declared.token.TokenKind.TheVariants.{Decimal}
use Rattle.vlog_tree.specs.Spelling.Parts.{terminal}
use Rattle.vlog_numbers.specs.Terminals.{name_of}
use Rattle.vlog_numbers.specs.Values.{sees_based}
use Rattle.vlog_parse.specs.Reads.{Parser, take_if}

-- the next token, which is left
abbrev pub peek : Parser Tok
peek [] = Err []
peek (tok ∷ rest) = Ok (tok, tok ∷ rest)

-- the next token, whatever it is
unfoldable pub any_token : Parser Tok
any_token = take_if Some

-- whether the token after the next is based
abbrev pub sees_size : List Tok → Bool
sees_size [] = false
sees_size (tok ∷ rest) = sees_based rest

-- whether the next token is a name
abbrev pub sees_name : List Tok → Bool
sees_name [] = false
sees_name (tok ∷ rest) = is_some (name_of tok)

abbrev pub is_decimal : TokenKind → Bool
is_decimal Decimal = true
is_decimal kind = false

-- whether the next token is a decimal, and the one after it this reserved word or mark
abbrev pub sees_decimal_before : List ℕ → List Tok → Bool
sees_decimal_before text [] = false
sees_decimal_before text (first ∷ []) = false
sees_decimal_before text (first ∷ second ∷ rest) = is_decimal first.kind && bytes_eq (terminal second) text

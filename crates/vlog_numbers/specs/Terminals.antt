-- What one token stands for.
use Rattle.std.specs.Prelude.{ℕ, ◌==◌, ◌&&◌, Bool, nat_le, List, [], ◌∷◌, Option, Some, None, if◌then◌else◌}
use Rattle.vlog_tokens.specs.Toks.{Tok}
use Rattle.vlog_tokens.specs.declared.token.TokenKind.{TokenKind}
use Rattle.vlog_tokens.specs.declared.token.TokenKind.TheVariants.{Word, Escaped, Decimal}
use Rattle.vlog_words.specs.Words.{is_reserved_text}
use Rattle.vlog_tree.specs.Spelling.Parts.{decimal_value}

-- what follows the backslash of an escaped name
abbrev pub unescaped : List ℕ → Option (List ℕ)
unescaped [] = None
unescaped (byte ∷ name) = if byte == 92 then Some name else None

abbrev pub name_by : TokenKind → List ℕ → Option (List ℕ)
name_by Word text = if is_reserved_text text then None else Some text
name_by Escaped text = unescaped text
name_by kind text = None

-- the name that a token is
unfoldable pub name_of : Tok → Option (List ℕ)
name_of tok = name_by tok.kind tok.text

-- whether a number may be a size or a replication count
abbrev pub is_size : ℕ → Bool
is_size value = nat_le 1 value && nat_le value 4096

abbrev pub number_by : ℕ → ℕ → TokenKind → ℕ → Option ℕ
number_by least most Decimal value = if nat_le least value && nat_le value most then Some value else None
number_by least most kind value = None

-- the value of a decimal, if it is one between these
unfoldable pub decimal_between : ℕ → ℕ → Tok → Option ℕ
decimal_between least most tok = number_by least most tok.kind (decimal_value tok.text)

-- the value of a decimal by itself
abbrev pub decimal_of : Tok → Option ℕ
decimal_of = decimal_between 0 2147483647

-- the value of a size or a replication count
abbrev pub count_of : Tok → Option ℕ
count_of = decimal_between 1 4096

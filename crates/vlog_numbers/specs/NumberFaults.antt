-- Numbers outside the rules.
use Rattle.std.specs.Prelude.{ℕ, ◌||◌, Bool, false, is_none, List, [], ◌∷◌, codes, Option, Some, None, if◌then◌else◌}
use Rattle.std.specs.Str.{bytes_eq}
use Rattle.vlog_tokens.specs.Toks.{Tok}
use Rattle.vlog_tokens.specs.declared.token.TokenKind.{TokenKind}
use Rattle.vlog_tokens.specs.declared.token.TokenKind.TheVariants.{Decimal, Based}
use Rattle.vlog_tree.specs.Spelling.Parts.{terminal}
use Rattle.vlog_numbers.specs.Values.{based_of, sees_based, unsized_of}
use Rattle.vlog_numbers.specs.Terminals.{count_of, decimal_of}
use Rattle.vlog_numbers.specs.declared.number_fault.Before.{Before}
use Rattle.vlog_numbers.specs.declared.number_fault.Before.TheVariants as before

-- what a token is to the one after it
abbrev pub before_by : TokenKind → List ℕ → Before
before_by Decimal text = before.Decimal
before_by kind text = if bytes_eq text (codes "{") then before.Brace else before.Other

abbrev pub before_of : Tok → Before
before_of tok = before_by tok.kind (terminal tok)

abbrev pub sees_brace : List Tok → Bool
sees_brace [] = false
sees_brace (tok ∷ rest) = bytes_eq (terminal tok) (codes "{")

-- A decimal before a based token is a size, and one between two braces a replication count; both have the same bounds.
abbrev pub is_count : Before → List Tok → Bool
is_count before.Brace rest = sees_based rest || sees_brace rest
is_count place rest = sees_based rest

-- A based token after a decimal is cut or extended to its size; one by itself has to fit 32 bits.
abbrev pub breaks_based : Before → Tok → Bool
breaks_based before.Decimal tok = is_none (based_of tok)
breaks_based place tok = is_none (unsized_of tok)

abbrev pub decimal_breaks : Before → Tok → List Tok → Bool
decimal_breaks place tok rest = if is_count place rest then is_none (count_of tok) else is_none (decimal_of tok)

abbrev pub breaks_by : TokenKind → Before → Tok → List Tok → Bool
breaks_by Decimal place tok rest = decimal_breaks place tok rest
breaks_by Based place tok rest = breaks_based place tok
breaks_by kind place tok rest = false

-- whether a token between others breaks a rule of numbers
unfoldable pub breaks : Before → Tok → List Tok → Bool
breaks place tok rest = breaks_by tok.kind place tok rest

-- the place of the first token that does, after what stands before
unfoldable pub number_fault_after : Before → List Tok → Option ℕ
number_fault_after place [] = None
number_fault_after place (tok ∷ rest) =
    if breaks place tok rest then Some tok.at else number_fault_after (before_of tok) rest

abbrev pub number_fault_at : List Tok → Option ℕ
number_fault_at ts = number_fault_after before.Other ts

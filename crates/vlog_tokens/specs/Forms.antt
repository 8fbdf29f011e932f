-- The forms of what is blank and of tokens, between two places of a source.
use Rattle.std.specs.Prelude.{◌≡◌, ◌≢◌, ℕ, ◌+◌, ◌<◌, ◌≤◌, ◌==◌, ◌||◌, true, List, length, slice_index, slice_range, if◌then◌else◌, Option, Some, None, Contains}
use Rattle.vlog_tokens.specs.Comments.{IsFirstClose}
use Rattle.vlog_tokens.specs.Classes.{is_space}
use Rattle.vlog_tokens.specs.Rows.{row_at}
use Rattle.vlog_tokens.specs.Runs.{IsRun}
use Rattle.vlog_tokens.specs.Strings.{IsString}
use Rattle.vlog_tokens.specs.Tables.{marks, directives}
use Rattle.vlog_tokens.specs.declared.class.Class.{Class}
use Rattle.vlog_tokens.specs.declared.class.Class.TheVariants.{SpaceByte, WordByte, LineByte, NameByte, DecimalByte, BinaryDigit, OctalDigit, DecimalDigit, HexDigit}
use Rattle.vlog_tokens.specs.declared.row.Row.{Row}
use Rattle.vlog_tokens.specs.declared.row.Row.TheVariants.{Space, LineComment, BlockComment, Directive, Token}
use Rattle.vlog_tokens.specs.declared.token.TokenKind.{TokenKind}
use Rattle.vlog_tokens.specs.declared.token.TokenKind.TheVariants.{Word, Escaped, System, Decimal, Based, Text, Mark}

-- a backquote, one of the five words with no byte of a word after it, and the rest of the line
pub record IsDirective (source : List ℕ) (from to : ℕ) : Type 0 where
  pub word_end : ℕ
  pub word : IsRun WordByte source (from + 1) word_end
  pub known : Contains directives (slice_range source (from + 1) word_end)
  pub line : IsRun LineByte source word_end to

-- a backslash, then one or more printable bytes up to white space or the end
pub record IsEscaped (source : List ℕ) (from to : ℕ) : Type 0 where
  pub name : IsRun NameByte source (from + 1) to
  pub some : from + 1 < to
  pub ends : to < length source → is_space (slice_index source to) ≡ true

-- `$`, then one or more bytes of a word
pub record IsSystem (source : List ℕ) (from to : ℕ) : Type 0 where
  pub name : IsRun WordByte source (from + 1) to
  pub some : from + 1 < to

-- where the letter of the base stands: after the quote and an `s` or `S` if there is one
abbrev pub base_at : List ℕ → ℕ → ℕ
base_at source from =
    if slice_index source (from + 1) == 115 || slice_index source (from + 1) == 83 then from + 2 else from + 1

-- the digits of the base with this letter
abbrev pub digits_of : ℕ → Option Class
digits_of letter =
    if letter == 98 || letter == 66 then Some BinaryDigit
    else (if letter == 111 || letter == 79 then Some OctalDigit
    else (if letter == 100 || letter == 68 then Some DecimalDigit
    else (if letter == 104 || letter == 72 then Some HexDigit
    else None)))

-- a quote, an `s` or `S` if there is one, the base's letter, white space if any, and one or more digits, of which the
-- first is not `_`
pub record IsBased (source : List ℕ) (from to : ℕ) : Type 0 where
  pub digits : Class
  pub base : digits_of (slice_index source (base_at source from)) ≡ Some digits
  pub first : ℕ
  pub space : IsRun SpaceByte source (base_at source from + 1) first
  pub run : IsRun digits source first to
  pub some : first < to
  pub no_underscore : slice_index source first ≢ 95

-- the longest of the marks that stands there
pub record IsMark (source : List ℕ) (from to : ℕ) : Type 0 where
  pub within : to ≤ length source
  pub known : Contains marks (slice_range source from to)
  pub longest : (k : ℕ) → k ≤ length source → Contains marks (slice_range source from k) → k ≤ to

-- A token of this kind stands between these places. The byte at the first is one that begins this kind.
abbrev pub IsToken : TokenKind → List ℕ → ℕ → ℕ → Type 0
IsToken Word source from to = IsRun WordByte source (from + 1) to
IsToken Escaped source from to = IsEscaped source from to
IsToken System source from to = IsSystem source from to
IsToken Decimal source from to = IsRun DecimalByte source (from + 1) to
IsToken Based source from to = IsBased source from to
IsToken Text source from to = IsString source (from + 1) to
IsToken Mark source from to = IsMark source from to

-- What this place begins stands between it and the other: one white space, a comment, a directive's line or a token.
abbrev pub HasForm : Row → List ℕ → ℕ → ℕ → Type 0
HasForm Space source from to = to ≡ from + 1
HasForm LineComment source from to = IsRun LineByte source (from + 2) to
HasForm BlockComment source from to = IsFirstClose source (from + 2) to
HasForm Directive source from to = IsDirective source from to
HasForm (Token kind) source from to = IsToken kind source from to

-- A blank piece or a token stands between these places, as long as it can be.
pub record IsPiece (source : List ℕ) (from to : ℕ) : Type 0 where
  pub some : from < to
  pub within : to ≤ length source
  pub form : HasForm (row_at source from) source from to

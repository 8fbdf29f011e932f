-- What a place of a source begins, told by its first two bytes.
use Rattle.std.specs.Prelude.{ℕ, ◌+◌, ◌==◌, ◌&&◌, if◌then◌else◌, List, slice_index}
use Rattle.std.specs.Char.{is_ascii_digit}
use Rattle.vlog_words.specs.Words.{is_word_start}
use Rattle.vlog_tokens.specs.Classes.{is_space}
use Rattle.vlog_tokens.specs.declared.row.Row.{Row}
use Rattle.vlog_tokens.specs.declared.row.Row.TheVariants.{Space, LineComment, BlockComment, Directive, Token}
use Rattle.vlog_tokens.specs.declared.token.TokenKind.{TokenKind}
use Rattle.vlog_tokens.specs.declared.token.TokenKind.TheVariants.{Word, Escaped, System, Decimal, Based, Text, Mark}

-- which token the byte begins, if it begins one
abbrev pub kind_of : ℕ → TokenKind
kind_of byte =
    if is_word_start byte then Word
    else (if byte == 92 then Escaped
    else (if byte == 36 then System
    else (if is_ascii_digit byte then Decimal
    else (if byte == 39 then Based
    else (if byte == 34 then Text
    else Mark)))))

-- what the byte and the one after it begin: white space, `//`, `/*`, a backquote, or a token
abbrev pub row_of : ℕ → ℕ → Row
row_of byte next =
    if is_space byte then Space
    else (if byte == 47 && next == 47 then LineComment
    else (if byte == 47 && next == 42 then BlockComment
    else (if byte == 96 then Directive
    else Token (kind_of byte))))

-- what this place begins
abbrev pub row_at : List ℕ → ℕ → Row
row_at source at = row_of (slice_index source at) (slice_index source (at + 1))

-- Names and decimals, read from a list of tokens.
use Rattle.std.specs.Prelude.{ℕ, List}
use Rattle.vlog_numbers.specs.Terminals.{decimal_of, name_of}
use Rattle.vlog_parse.specs.Reads.{Parser, take_if}

unfoldable pub name : Parser (List ℕ)
name = take_if name_of

unfoldable pub decimal : Parser ℕ
decimal = take_if decimal_of

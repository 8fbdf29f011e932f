-- Numbers, read from a list of tokens.
use Rattle.std.specs.Prelude.{ℕ, Bool, List, if◌then◌else◌}
use Rattle.vlog_numbers.specs.Terminals.{is_size}
use Rattle.vlog_numbers.specs.Values.{sees_based, sized_of, unsized_of}
use Rattle.vlog_tree.specs.Spelling.Numbers.{bits_of}
use Rattle.vlog_parse.specs.Looks.{sees_size}
use Rattle.vlog_parse.specs.Reads.{Parser, ◌>>=◌, pure, refuse, take_if}
use Rattle.vlog_parse.specs.Terminals.{decimal}

-- a decimal by itself
unfoldable pub decimal_number : Parser (List Bool)
decimal_number = do
  value ← decimal
  pure (bits_of 32 value)

-- a based token by itself
unfoldable pub unsized_number : Parser (List Bool)
unsized_number = take_if unsized_of

-- The based token behind a size. A decimal may be a number by itself, so it is here that one outside the bounds of a
-- size does not fit.
unfoldable pub sized_digits : ℕ → Parser (List Bool)
sized_digits width = if is_size width then take_if (sized_of width) else refuse

-- a based token behind its size
unfoldable pub sized_number : Parser (List Bool)
sized_number = do
  width ← decimal
  sized_digits width

unfoldable pub number : Parser (List Bool)
number = λ ts. (if sees_based ts then unsized_number else (if sees_size ts then sized_number else decimal_number)) ts

-- Sets of bytes.
use Rattle.std.specs.Prelude.{ℕ, Bool, not, ◌==◌, ◌||◌}
use Rattle.std.specs.Char.{is_ascii_digit, is_ascii_graphic, is_ascii_hexdigit}
use Rattle.std.specs.Int.{is_in_range}
use Rattle.vlog_words.specs.Words.{is_word_byte}
pub use Rattle.vlog_words.specs.Words.{is_space}
use Rattle.vlog_tokens.specs.declared.class.Class.{Class}
use Rattle.vlog_tokens.specs.declared.class.Class.TheVariants.{SpaceByte, WordByte, LineByte, NameByte, DecimalByte, BinaryDigit, OctalDigit, DecimalDigit, HexDigit}

-- what every base has among its digits: `x X z Z ? _`
abbrev pub is_unknown_digit : ℕ → Bool
is_unknown_digit byte = byte == 120 || byte == 88 || byte == 122 || byte == 90 || byte == 63 || byte == 95

-- whether the byte is of the class
abbrev pub is_in : Class → ℕ → Bool
is_in SpaceByte byte = is_space byte
is_in WordByte byte = is_word_byte byte
is_in LineByte byte = not (byte == 10)
is_in NameByte byte = is_ascii_graphic byte
is_in DecimalByte byte = is_ascii_digit byte || byte == 95
is_in BinaryDigit byte = byte == 48 || byte == 49 || is_unknown_digit byte
is_in OctalDigit byte = is_in_range 48 55 byte || is_unknown_digit byte
is_in DecimalDigit byte = is_ascii_digit byte || is_unknown_digit byte
is_in HexDigit byte = is_ascii_hexdigit byte || is_unknown_digit byte

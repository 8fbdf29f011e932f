-- The words of the netlist language.
use Rattle.std.specs.Prelude.{◌==◌, ℕ, List, [], ◌∷◌, ◌++◌, Bool, false, ◌&&◌, ◌||◌, IsTrue, Contains}
use Rattle.std.specs.Char.{is_ascii_alphabetic, is_ascii_alphanumeric}
use Rattle.std.specs.List.{AllPass, list_all, list_any}
use Rattle.std.specs.Str.{bytes_eq}
unfoldable pub use Rattle.vlog_words.specs.Reserved.{profile_words, outside_words}

-- a letter or `_`
abbrev pub is_word_start : ℕ → Bool
is_word_start byte = is_ascii_alphabetic byte || byte == 95

-- a letter, a digit, `_` or `$`
abbrev pub is_word_byte : ℕ → Bool
is_word_byte byte = is_ascii_alphanumeric byte || byte == 95 || byte == 36

-- a letter or `_`, then letters, digits, `_` and `$`
abbrev pub IsWord : List ℕ → Type 0
IsWord [] = ⊥
IsWord (first ∷ rest) = IsTrue (is_word_start first) × AllPass is_word_byte rest

-- the same as a test
abbrev pub is_word_text : List ℕ → Bool
is_word_text [] = false
is_word_text (first ∷ rest) = is_word_start first && list_all is_word_byte rest

abbrev pub reserved_words : List (List ℕ)
reserved_words = profile_words ++ outside_words

abbrev pub IsReserved : List ℕ → Type 0
IsReserved text = Contains reserved_words text

-- whether the text is one of these words
abbrev pub is_text_among : List (List ℕ) → List ℕ → Bool
is_text_among words text = list_any (λ word. bytes_eq word text) words

-- `IsReserved` as a test
abbrev pub is_reserved_text : List ℕ → Bool
is_reserved_text text = is_text_among reserved_words text

-- whether the word begins with this byte
abbrev pub begins_with : ℕ → List ℕ → Bool
begins_with byte [] = false
begins_with byte (first ∷ rest) = first == byte

-- a space, a tab, a newline, a form feed or a carriage return
abbrev pub is_space : ℕ → Bool
is_space byte = byte == 32 || byte == 9 || byte == 10 || byte == 12 || byte == 13

-- How a name is written.
use Rattle.std.specs.Prelude.{ℕ, List, ◌++◌, Bool, ◌&&◌, not, if◌then◌else◌, codes}
use Rattle.vlog_words.specs.Words.{is_reserved_text, is_word_text}

-- a word that is not reserved
abbrev pub is_plain : List ℕ → Bool
is_plain name = is_word_text name && not (is_reserved_text name)

-- as it is where it is plain, and else with a backslash before it
abbrev pub written_name : List ℕ → List ℕ
written_name name = if is_plain name then name else codes "\\" ++ name

-- Names that are put in a table one after another, each once and with what is said of it.
use Rattle.std.specs.Prelude.{List, [], ◌∷◌, ◌++◌, Bool, Option, None, Some, bytes_eq, cond, map}
use Rattle.std.specs.Borrow.{Bor}
use Rattle.std.specs.List.{list_any}
use Rattle.vlog_tree.specs.Meaning.Uses.{Text}
use Rattle.nets.specs.Nets.{Net}

abbrev pub Entries : Type 0
Entries = List (Text × Net)

-- the entries of a table whose keys are borrowed
abbrev pub entries_shown : List (Bor Text × Net) → Entries
entries_shown entries = map (λ entry. (entry.0.now, entry.1)) entries

abbrev pub has_name : Text → Entries → Bool
has_name name entries = list_any (λ entry. bytes_eq name entry.0) entries

abbrev pub entry_of : Text → Option Net → Entries
entry_of name None = []
entry_of name (Some net) = (name, net) ∷ []

abbrev pub one_placed : (Text → Option Net) → Entries → Text → Entries
one_placed said entries name = cond (has_name name entries) entries (entries ++ entry_of name (said name))

abbrev pub placed : (Text → Option Net) → Entries → List Text → Entries
placed said entries [] = entries
placed said entries (name ∷ names) = placed said (one_placed said entries name) names

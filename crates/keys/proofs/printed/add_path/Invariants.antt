use Rattle.std.proofs.Common.{◌≡◌, ◌++◌, drop}
use Rattle.keys.specs.Printed.{path_text}
use Rattle.keys.proofs.printed.add_path.Given as goal

-- The text so far and the names that are left make the whole.
abbrev pub invariant-loop-name : goal.invariant-loop-name
invariant-loop-name l =
    l.text.items ++ path_text (drop l.name-index l.path) ≡ l.initial.text.items ++ path_text l.path

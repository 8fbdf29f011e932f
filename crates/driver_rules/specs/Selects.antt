-- What is assigned, as it is kept.
use Rattle.std.specs.Prelude.{ℕ, ◌+◌, ◌-◌, ◌≡◌, ◌≤◌, List, Option, Some, All, bytes_eq, map, position}
use Rattle.nets.specs.Nets.{nets}
use Rattle.vlog_tree.specs.declared.design.Module.{Module}
use Rattle.vlog_tree.specs.Meaning.Ranges.{Bits, bits_from}
use Rattle.vlog_tree.specs.Meaning.Uses.{Text}
use Rattle.driver_rules.specs.declared.run.Run.{Run}
use Rattle.driver_rules.specs.declared.select.Select.{Select}
use Rattle.driver_rules.specs.Doubles.{Assigned}

-- the bits of a name from the first to the last of a run
abbrev pub bits_of : Text → Run → Bits
bits_of name run = bits_from name run.first (run.last - run.first + 1)

abbrev pub assigned : Select → Assigned
assigned select = record { at = select.at; bits = bits_of select.name.now select.bits }

abbrev pub shown : List Select → List Assigned
shown selects = map assigned selects

-- which of the names of a module the name is
abbrev pub number_of : Module → Text → Option ℕ
number_of m name = position (λ entry. bytes_eq name entry.0) (nets m)

-- a run of the name: it has the name's number, and goes forward
pub record IsRunOf (m : Module) (name : Text) (run : Run) : Type 0 where
  pub numbered : number_of m name ≡ Some run.net
  pub forward : run.first ≤ run.last

abbrev pub AreNumbered : Module → List Select → Type 0
AreNumbered m selects = All (λ select. IsRunOf m select.name.now select.bits) selects

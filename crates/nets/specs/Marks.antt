-- The marks of a name as the bits of a number.
use Rattle.std.specs.Prelude.{ℕ, Bool, ◌==◌, true, false, Option, Some}
use Rattle.std.specs.Int.RustNames.{bit_and}
use Rattle.vlog_tree.specs.declared.item.Dir.{Dir}
use Rattle.vlog_tree.specs.declared.item.Dir.TheVariants.{Input, Output}
use Rattle.vlog_tree.specs.declared.item.NetKind.{NetKind}
use Rattle.vlog_tree.specs.declared.item.NetKind.TheVariants.{Reg}

abbrev pub has_mark : ℕ → ℕ → Bool
has_mark marks mark = bit_and marks mark == mark

-- what a declaration with this direction, or of this kind, calls its name
abbrev pub calls_input : Option Dir → Bool
calls_input (Some Input) = true
calls_input other = false

abbrev pub calls_output : Option Dir → Bool
calls_output (Some Output) = true
calls_output other = false

abbrev pub calls_register : NetKind → Bool
calls_register Reg = true
calls_register other = false

-- The numbers of bits.
use Rattle.std.specs.Prelude.{ℕ, ◌+◌, List, [], Option, None, Some, map, reverse, unwrap_or}
use Rattle.vlog_tree.specs.declared.design.Module.{Module}
use Rattle.vlog_tree.specs.declared.expr.Expr.{Expr}
use Rattle.vlog_tree.specs.Meaning.Lefts.{Bit, target_bits}
use Rattle.vlog_tree.specs.Meaning.Ranges.{Bits, bits_from}
use Rattle.vlog_tree.specs.Meaning.Uses.{Text}
use Rattle.targets.specs.declared.run.Run.{Run}

-- the number of each bit that has one
abbrev pub Numbering : Type 0
Numbering = Bit → Option ℕ

-- from the last to the first
unfoldable pub numbers_down : Numbering → List Bit → List (Option ℕ)
numbers_down number bits = reverse (map number bits)

-- the number of a bit of a name, whose first bit has this one
abbrev pub number_at : Option ℕ → ℕ → Option ℕ
number_at None bit = None
number_at (Some first) bit = Some (first + bit)

-- the bits of a name that stand in a run
abbrev pub bits_of_run : Text → Run → Bits
bits_of_run name run = bits_from name run.low run.width

-- the bits that an expression assigns where it is connected to an output port, and none where it can't be assigned
abbrev pub assigned_bits : Module → Expr → List Bit
assigned_bits m e = unwrap_or (target_bits m e) []

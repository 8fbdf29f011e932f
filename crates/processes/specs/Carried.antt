-- What it is to carry out a statement.
use Rattle.std.specs.Prelude.{ℕ, ◌+◌, ◌≡◌, List, [], ◌++◌, false, length, map}
use Rattle.std.specs.List.{list_any}
use Rattle.flat_net.specs.declared.edge.Edge.{Edge}
use Rattle.flat_net.specs.declared.fault.FlatFault.{FlatFault}
use Rattle.lowering.specs.Expressions.{Wires, condition}
use Rattle.lowering.specs.Gates.{chosen_bits}
use Rattle.lowering.specs.Limits.{Added, Excuses, next_of, with_more}
use Rattle.lowering.specs.Lowered.{Lowered, lowered}
use Rattle.numbering.specs.Bits.{register_bits}
use Rattle.processes.specs.Numbers.{edges_at, ordered_numbers}
use Rattle.processes.specs.Statements.{Process, Registers, branched, ordered, process}
use Rattle.vlog_tree.specs.declared.design.Module.{Module}
use Rattle.vlog_tree.specs.declared.expr.Expr.{Expr}
use Rattle.vlog_tree.specs.Meaning.Lefts.{Bit, same_bit}

-- A process changes no other bits than those that it assigns.
abbrev pub Keeps : Process → Type 0
Keeps it = (bit : Bit) → list_any (same_bit bit) it.assigns ≡ false → (before : Registers) (next : ℕ) → (it.change before next).registers bit ≡ before bit

-- A process is carried out on the edges of a module's register bits.
pub record Carried (m : Module) (it : Process) (start end : Added) (old new : List Edge) : Type 0 where
  pub edges : (before : Registers) → old ≡ map before (register_bits m) → new ≡ map (it.change before (next_of start)).registers (register_bits m)
  pub nodes : (before : Registers) → old ≡ map before (register_bits m)
      → end ≡ with_more start (lowered (it.change before (next_of start)).nodes [])
  pub keeps : Keeps it

-- a condition, and a process for each of its values
abbrev pub if_process : Module → Wires → Expr → Process → Process → Process
if_process m wires test first other =
    process (first.assigns ++ other.assigns) (λ before next. branched m (condition m wires test next) first other before next)

-- What may be answered where it is not.
abbrev pub CarriesTo : Module → Process → Added → List Edge → FlatFault → Type 0
CarriesTo m it start old fault =
    (before : Registers) → old ≡ map before (register_bits m) → Excuses (next_of start + length (it.change before (next_of start)).nodes) fault

-- Bits that are not among these are not among the first ones.
abbrev pub Within : List Bit → List Bit → Type 0
Within few bits = (bit : Bit) → list_any (same_bit bit) bits ≡ false → list_any (same_bit bit) few ≡ false

-- A process is carried out and taken back, and its edges at numbers are kept apart.
pub record Tried (m : Module) (it : Process) (numbers : List ℕ) (start end : Added) (old new kept : List Edge) : Type 0 where
  pub back : (bits : List Bit) → numbers ≡ ordered_numbers m bits → Within it.assigns bits → (before : Registers) → old ≡ map before (register_bits m) → new ≡ old
  pub edges : (bits : List Bit) → numbers ≡ ordered_numbers m bits → (before : Registers) → old ≡ map before (register_bits m)
      → kept ≡ map (it.change before (next_of start)).registers (ordered m bits)
  pub nodes : (before : Registers) → old ≡ map before (register_bits m)
      → end ≡ with_more start (lowered (it.change before (next_of start)).nodes [])
  pub keeps : Keeps it

-- The edges that a choice takes at numbers, between those that are kept apart and the current ones.
abbrev pub taken : Edge → List ℕ → List Edge → List Edge → ℕ → Lowered
taken choice numbers firsts current next = chosen_bits choice firsts (edges_at numbers current) next

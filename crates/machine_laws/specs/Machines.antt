-- A design and its flat netlist are one machine.
use Rattle.std.specs.Prelude.{◌≡◌, ◌<◌, ℕ, List, Bool, Some, length}
use Rattle.elab.specs.Plans.{setup_of}
use Rattle.flat_design.specs.Flat.{flat}
use Rattle.levelise.specs.Machine.{Level}
use Rattle.levelise.specs.Machine as net
use Rattle.loop_laws.specs.Loops.{IsClockedDesign}
use Rattle.rule_laws.specs.Reset.{IsResetOf}
use Rattle.trace_rows.specs.Machine.{Machine}
use Rattle.vlog_tree.specs.declared.design.Module.{Module}
use Rattle.vlog_tree.specs.Meaning.Instances.{top_module}
use Rattle.vlog_tree.specs.Meaning.Keys.{input_keys, register_keys}
use Rattle.vlog_tree.specs.Meaning.Setting.{Setting}
use Rattle.vlog_tree.specs.Meaning.Step as design
use Rattle.vlog_tree.specs.Meaning.Value.{IsLoopFree}

-- the flat netlist of a design, and how its runs begin
abbrev pub level_of : Setting → Level
level_of setting = record { net = flat setting; setup = setup_of setting }

-- Two machines of states and rows of these lengths.
pub record AreSame (registers inputs : ℕ) (one other : Machine) : Type 0 where
  pub start : one.start ≡ other.start
  pub started : length one.start ≡ registers
  pub next : (state row : List Bool) → length state ≡ registers → length row ≡ inputs → one.next state row ≡ other.next state row
  pub stays : (state row : List Bool) → length state ≡ registers → length row ≡ inputs → length (one.next state row) ≡ registers
  pub bad : (state row : List Bool) → length state ≡ registers → length row ≡ inputs → one.bad state row ≡ other.bad state row
  pub base : one.base ≡ other.base
  pub width : length one.base ≡ inputs

abbrev pub MachinesAgree : Type 0
MachinesAgree =
    (setting : Setting) (m : Module) → IsClockedDesign setting → top_module setting ≡ Some m → IsResetOf setting m
    → length (flat setting).nodes < 4294967296 → IsLoopFree setting
    → AreSame (length (register_keys setting)) (length (input_keys setting)) (net.machine (level_of setting)) (design.machine setting)

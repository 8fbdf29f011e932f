-- Items are carried out: their nodes are added, and bits and registers have the edges that they give.
use Rattle.std.specs.Prelude.{ℕ, ◌+◌, ◌≡◌, List, [], ◌++◌, Option, length, map}
use Rattle.drives.specs.Given.{given_so_far}
use Rattle.flat_design.specs.Items.{Drive, Giving}
use Rattle.flat_items.specs.Framing.{IsFrame}
use Rattle.flat_net.specs.declared.edge.Edge.{Edge}
use Rattle.flat_net.specs.declared.fault.FlatFault.{FlatFault}
use Rattle.frames.specs.Framed.{Framed}
use Rattle.lowering.specs.Limits.{Added, Excuses, next_of, with_more}
use Rattle.lowering.specs.Lowered.{lowered}
use Rattle.numbering.specs.Bits.{register_bits}
use Rattle.processes.specs.Statements.{Registers}
use Rattle.vlog_tree.specs.declared.design.Module.{Module}
use Rattle.vlog_tree.specs.Meaning.Instances.{Instance}
use Rattle.vlog_tree.specs.Meaning.Setting.{Setting}

-- What is given is added to the nodes, the first edges of driven bits, and the edges of a module's register bits.
pub record Carried (setting : Setting) (m : Module) (giving : Giving) (start end : Added) (old new : List (Option Edge)) (was now : List Edge) : Type 0 where
  pub nodes : (before : Registers) → was ≡ map before (register_bits m)
      → end ≡ with_more start (lowered (giving before (next_of start)).nodes [])
  pub driven : (before : Registers) → was ≡ map before (register_bits m)
      → (drives ports : List Drive) → old ≡ given_so_far setting drives ports
      → new ≡ given_so_far setting (drives ++ (giving before (next_of start)).drives)
      (ports ++ (giving before (next_of start)).ports)
  pub registers : (before : Registers) → was ≡ map before (register_bits m)
      → now ≡ map (giving before (next_of start)).registers (register_bits m)

-- What may be answered where it is not.
abbrev pub CarriesTo : Module → Giving → Added → List Edge → FlatFault → Type 0
CarriesTo m giving start was fault =
    (before : Registers) → was ≡ map before (register_bits m)
    → Excuses (next_of start + length (giving before (next_of start)).nodes) fault

-- ---- what gives nothing to registers, in the instance of a frame

-- what is given, by the design and the instance
abbrev pub GivingIn : Type 0
GivingIn = Setting → Instance → Giving

abbrev pub Gives : Framed → GivingIn → Added → Added → List (Option Edge) → List (Option Edge) → Type 0
Gives frame giving start end old new =
    (setting : Setting) (place : ℕ) (instance : Instance) → IsFrame setting place instance frame
    → (was : List Edge) → Carried setting instance.definition (giving setting instance) start end old new was was

abbrev pub GivesTo : Framed → GivingIn → Added → FlatFault → Type 0
GivesTo frame giving start fault =
    (setting : Setting) (place : ℕ) (instance : Instance) → IsFrame setting place instance frame
    → (was : List Edge) → CarriesTo instance.definition (giving setting instance) start was fault

-- What one instance of a design gives to its flat netlist.
use Rattle.std.specs.Prelude.{ℕ, ◌+◌, ◌≡◌, List, [], ◌++◌, Option, Some, length, map, slice_get}
use Rattle.flat_net.specs.declared.edge.Edge.{Edge}
use Rattle.flat_net.specs.declared.fault.FlatFault.{FlatFault}
use Rattle.vlog_tree.specs.Meaning.Instances.{Instance, instances}
use Rattle.vlog_tree.specs.Meaning.Setting.{Setting}
use Rattle.lowering.specs.Limits.{Added, Excuses, next_of, with_more}
use Rattle.lowering.specs.Lowered.{lowered}
use Rattle.numbering.specs.Bits.{register_bits}
use Rattle.flat_design.specs.Instances.{instance_given}
use Rattle.flat_design.specs.Items.{Drive}
use Rattle.drives.specs.Given.{given_so_far}

-- The items of the instance at a place give their nodes, the edges of driven bits, and those of the registers.
pub record InstanceGives (setting : Setting) (place : ℕ) (start end : Added) (old new : List (Option Edge)) (before after : List Edge) : Type 0 where
  pub nodes : (instance : Instance) → slice_get (instances setting) place ≡ Some instance
      → end ≡ with_more start (lowered (instance_given setting instance (next_of start)).nodes [])
  -- Where bits were given the first of some edges, they now have the first of these and what this instance gives.
  pub driven : (instance : Instance) → slice_get (instances setting) place ≡ Some instance
      → (drives ports : List Drive) → old ≡ given_so_far setting drives ports
      → new ≡ given_so_far setting (drives ++ (instance_given setting instance (next_of start)).drives)
      (ports ++ (instance_given setting instance (next_of start)).ports)
  pub registers : (instance : Instance) → slice_get (instances setting) place ≡ Some instance
      → after ≡ before
      ++ map (instance_given setting instance (next_of start)).registers (register_bits instance.definition)

-- What may be answered where it does not.
abbrev pub InstanceGivesTo : Setting → ℕ → Added → FlatFault → Type 0
InstanceGivesTo setting place start fault =
    (instance : Instance) → slice_get (instances setting) place ≡ Some instance
    → Excuses (next_of start + length (instance_given setting instance (next_of start)).nodes) fault

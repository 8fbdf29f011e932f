-- What the edges of bits mean: a bit is given an edge with the value of what drives it.
use Rattle.std.specs.Prelude.{◌≡◌, ◌<◌, ℕ, List, [], Bool, true, Some, slice_get}
use Rattle.flat_net.specs.Values.{Reading, edge_value}
use Rattle.vlog_tree.specs.Meaning.Drivers.{drivers}
use Rattle.vlog_tree.specs.Meaning.Instances.{Instance, instances}
use Rattle.vlog_tree.specs.Meaning.Keys.{bit_count, key_of}
use Rattle.vlog_tree.specs.Meaning.Lefts.{Bit}
use Rattle.vlog_tree.specs.Meaning.Names.{is_input}
use Rattle.vlog_tree.specs.Meaning.Setting.{Setting}
use Rattle.vlog_tree.specs.Meaning.Uses.{Text}
use Rattle.vlog_tree.specs.Meaning.Value.{driven_bit, names_in, outer_bit}
use Rattle.vlog_tree.specs.Meaning.Value as meaning
use Rattle.lowering.specs.Meaning.{HasNames, HasZero, Holds, IsAbove, IsBelow, Relation}
use Rattle.numbering.specs.Numbering.{first_of_expressions, key_in, wires_in}
use Rattle.design_laws.specs.Sound.{IsSound}
use Rattle.flat_design.specs.Flat.{given_to, whole_of}
use Rattle.design_laws.specs.Grammar.{design_is_by_grammar}

-- The design keeps the rules, the edges of names have the values of these, and nodes are read by their values.
pub record IsRead (rel : Relation) (setting : Setting) (reading : meaning.Reading) (read : Reading) (state row : List Bool) : Type 0 where
  pub sound : IsSound setting
  pub gates : design_is_by_grammar setting.design ≡ true
  pub zero : HasZero rel read
  pub names : (i : ℕ) (instance : Instance) → slice_get (instances setting) i ≡ Some instance
      → HasNames rel read instance.definition (names_in reading instance.path) (wires_in setting instance.path)
  pub holds : Holds rel read state row (first_of_expressions setting) (whole_of setting).nodes

-- the bit of an instance, by what drives it
abbrev pub DrivesMean : Relation → Type 0
DrivesMean rel =
    (setting : Setting) (reading : meaning.Reading) (read : Reading) (state row : List Bool)
    → IsRead rel setting reading read state row
    → (i : ℕ) (instance : Instance) → slice_get (instances setting) i ≡ Some instance → (bit : Bit)
    → rel (driven_bit reading instance.path instance.definition (drivers setting.design instance.definition bit))
    (edge_value read (given_to (whole_of setting).drives (key_in instance.path bit)))

-- the bit of an input port of an instance that is not the top, by what is connected to it
abbrev pub PortsMean : Relation → Type 0
PortsMean rel =
    (setting : Setting) (reading : meaning.Reading) (read : Reading) (state row : List Bool)
    → IsRead rel setting reading read state row
    → (i : ℕ) (instance : Instance) → slice_get (instances setting) i ≡ Some instance → (instance.path ≡ [] → ⊥)
    → (name : Text) → is_input instance.definition name ≡ true
    → (bit : ℕ) → bit < bit_count instance.definition name
    → rel (outer_bit setting reading (key_of instance.path name bit))
    (edge_value read (given_to (whole_of setting).ports (key_of instance.path name bit)))

-- The edges that bits are given have the values of what drives these, and only these.
pub record MeansDrives : Type 0 where
  pub drives_up : DrivesMean IsBelow
  pub drives_down : DrivesMean IsAbove
  pub ports_up : PortsMean IsBelow
  pub ports_down : PortsMean IsAbove

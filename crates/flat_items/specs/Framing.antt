-- The names of an instance as a frame has them, and the numbers of its bits among the driven ones.
use Rattle.std.specs.Prelude.{ℕ, ◌+◌, ◌≡◌, Bool, not, Option, None, cond, option_map}
use Rattle.flat_items.specs.declared.side.Side.{Side}
use Rattle.flat_items.specs.declared.side.Side.TheVariants.{Inside, Outside}
use Rattle.frames.specs.Framed.{Framed, wires_of}
use Rattle.numbering.specs.Numbering.{driven_keys, key_in, wires_in}
use Rattle.numbering.specs.Numbers.{IsPlaced, place_of}
use Rattle.numbering.specs.Places.{placed_driven}
use Rattle.vlog_tree.specs.Meaning.Instances.{Instance}
use Rattle.vlog_tree.specs.Meaning.Lefts.{Bit, number_in}
use Rattle.vlog_tree.specs.Meaning.Names.{is_input}
use Rattle.vlog_tree.specs.Meaning.Setting.{Setting}
use Rattle.vlog_tree.specs.Meaning.Uses.{Text}

-- Bits of this side are those of input ports, or those that are not.
abbrev pub counts : Side → Bool → Bool
counts Inside is_input_port = not is_input_port
counts Outside is_input_port = is_input_port

-- the number of a bit among all driven bits of the design
abbrev pub driven_number : Framed → Bit → Option ℕ
driven_number frame bit =
    option_map (λ number. frame.first_driven + number) (number_in (placed_driven frame.placing) bit)

-- the same of the bits of one side
abbrev pub number_by : Side → Framed → Bit → Option ℕ
number_by side frame bit = cond (counts side (is_input frame.placing.definition bit.name)) (driven_number frame bit) None

-- The frame is that of the instance, which stands at a place.
pub record IsFrame (setting : Setting) (place : ℕ) (instance : Instance) (frame : Framed) : Type 0 where
  pub placed : IsPlaced setting place instance
  pub definition : frame.placing.definition ≡ instance.definition
  pub wires : (name : Text) (bit : ℕ) → wires_of frame name bit ≡ wires_in setting instance.path name bit
  pub driven : (bit : Bit) → place_of (driven_keys setting) (key_in instance.path bit) ≡ driven_number frame bit

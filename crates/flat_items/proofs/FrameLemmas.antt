-- What a frame has is what the instance has.
use Rattle.std.proofs.Common.{◌≡◌, ◌+◌, ◌<◌, ℕ, Bool, true, false, Option, None, Some, ap, cond, not, option_map, refl, slice_get, sym, ◌∙◌}
use Rattle.std.specs.Option.{IfSome}
use Rattle.design_laws.specs.Sound.{IsSound}
use Rattle.drives.specs.Given.{drive_number, port_number}
use Rattle.flat_items.specs.Framing.{IsFrame, driven_number, number_by}
use Rattle.flat_items.specs.declared.side.Side.{Side}
use Rattle.flat_items.specs.declared.side.Side.TheVariants.{Inside, Outside}
use Rattle.flat_items.specs.Framing.{counts}
use Rattle.frames.specs.Framed.{Framed, wires_of}
use Rattle.numbering.specs.Numbering.{driven_keys, key_in, wires_in}
use Rattle.numbering.specs.Numbers.{place_of}
use Rattle.numbering.specs.Places.{placed_driven}
use Rattle.targets.specs.Numbers.{number_at}
use Rattle.vlog_tree.specs.Meaning.Instances.{Instance, instances}
use Rattle.vlog_tree.specs.Meaning.Keys.{bit_count}
use Rattle.vlog_tree.specs.Meaning.Lefts.{Bit, bit_of, number_in}
use Rattle.vlog_tree.specs.Meaning.Names.{is_input}
use Rattle.vlog_tree.specs.Meaning.Setting.{Setting}
use Rattle.vlog_tree.specs.Meaning.Uses.{Text}

-- ---- the frame of an instance

pub frame_of : (setting : Setting) → IsSound setting → (place : ℕ) (frame : Framed)
    → ((instance : Instance) → slice_get (instances setting) place ≡ Some instance → frame.placing.definition ≡ instance.definition)
    → ((instance : Instance) → slice_get (instances setting) place ≡ Some instance
    → (name : Text) (bit : ℕ) → wires_of frame name bit ≡ wires_in setting instance.path name bit)
    → ((instance : Instance) → slice_get (instances setting) place ≡ Some instance
    → (bit : Bit) → place_of (driven_keys setting) (key_in instance.path bit) ≡ driven_number frame bit)
    → (instance : Instance) → slice_get (instances setting) place ≡ Some instance → IsFrame setting place instance frame
frame_of setting sound place frame definition wires driven instance there = record {
  placed = record { distinct = sound.distinct; there = there };
  definition = definition instance there;
  wires = wires instance there;
  driven = driven instance there;
}

module _ (setting : Setting) (place : ℕ) (instance : Instance) (frame : Framed) (is : IsFrame setting place instance frame) where
  pub wires_are : wires_of frame ≡ wires_in setting instance.path
  wires_are = λ j name bit. is.wires name bit j

  turned : (b : Bool) (number : Option ℕ) → cond (not b) number None ≡ cond b None number
  turned true number = refl
  turned false number = refl

  pub inside_numbers : number_by Inside frame ≡ drive_number setting instance
  inside_numbers = λ j bit. each bit j
    where
      each : (bit : Bit) → number_by Inside frame bit ≡ drive_number setting instance bit
      each bit =
          turned (is_input frame.placing.definition bit.name) (driven_number frame bit)
          ∙ (λ j. cond (is_input (is.definition j) bit.name) None (sym (is.driven bit) j))

  pub outside_numbers : number_by Outside frame ≡ port_number setting instance
  outside_numbers = λ j bit. cond (is_input (is.definition j) bit.name) (sym (is.driven bit) j) None

-- ---- the numbers of a name

pub counted_numbers : (side : Side) (frame : Framed) (name : Text) (found : Option ℕ)
    → IfSome found (λ place. (bit : ℕ) → bit < bit_count frame.placing.definition name
    → option_map (λ number. frame.first_driven + number) (number_in (placed_driven frame.placing) (bit_of name bit)) ≡ Some (place + bit))
    → (found ≡ None → (bit : ℕ) → bit < bit_count frame.placing.definition name
    → number_in (placed_driven frame.placing) (bit_of name bit) ≡ None)
    → counts side (is_input frame.placing.definition name) ≡ true
    → (bit : ℕ) → bit < bit_count frame.placing.definition name → number_by side frame (bit_of name bit) ≡ number_at found bit
counted_numbers side frame name (Some place) there none counted bit below =
    ap (λ b. cond b (driven_number frame (bit_of name bit)) None) counted ∙ there bit below
counted_numbers side frame name None there none counted bit below =
    ap (λ b. cond b (driven_number frame (bit_of name bit)) None) counted
    ∙ ap (option_map (λ number. frame.first_driven + number)) (none refl bit below)

pub uncounted_numbers : (side : Side) (frame : Framed) (name : Text)
    → counts side (is_input frame.placing.definition name) ≡ false
    → (bit : ℕ) → number_by side frame (bit_of name bit) ≡ None
uncounted_numbers side frame name counted bit = ap (λ b. cond b (driven_number frame (bit_of name bit)) None) counted

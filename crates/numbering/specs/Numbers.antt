-- The number of each bit's node.
use Rattle.std.specs.Prelude.{◌≡◌, ◌<◌, ◌+◌, ℕ, List, [], true, false, Option, None, Some, length, position, slice_get}
use Rattle.flat_net.specs.Edges.{plain, zero_edge}
use Rattle.vlog_tree.specs.declared.design.Module.{Module}
use Rattle.vlog_tree.specs.declared.key.Key.{Key}
use Rattle.vlog_tree.specs.Meaning.Instances.{Instance, instances, same_path, top_module}
use Rattle.vlog_tree.specs.Meaning.Keys.{input_keys, register_keys, same_key}
use Rattle.vlog_tree.specs.Meaning.Lefts.{Bit, number_in}
use Rattle.vlog_tree.specs.Meaning.Setting.{Setting}
use Rattle.numbering.specs.Bits.{driven_bits, input_bits, register_bits}
use Rattle.numbering.specs.Frames.{driven_before, registers_before}
use Rattle.numbering.specs.Numbering.{driven_keys, edge_of, is_top, key_in, keys_with_nodes}
use Rattle.numbering.specs.Places.{IsApart}

-- Places of the list whose instances have one path are one place.
abbrev pub AreDistinct : List Instance → Type 0
AreDistinct list =
    (i j : ℕ) (a b : Instance) → slice_get list i ≡ Some a → slice_get list j ≡ Some b → a.path ≡ b.path → i ≡ j

-- the place of the key among these
abbrev pub place_of : List Key → Key → Option ℕ
place_of keys key = position (same_key key) keys

-- The instance stands at a place of the list, whose paths are distinct.
pub record IsPlaced (setting : Setting) (i : ℕ) (instance : Instance) : Type 0 where
  pub distinct : AreDistinct (instances setting)
  pub there : slice_get (instances setting) i ≡ Some instance

-- Each bit of the design has the node of its number.
pub record NumbersBits : Type 0 where
  -- the place of a bit among the registers, and among the driven bits
  pub register_place : (setting : Setting) (i : ℕ) (instance : Instance) → IsPlaced setting i instance
      → (bit : Bit) (o : ℕ) → number_in (register_bits instance.definition) bit ≡ Some o
      → place_of (register_keys setting) (key_in instance.path bit) ≡ Some (registers_before (instances setting) i + o)
  pub no_register_place : (setting : Setting) (i : ℕ) (instance : Instance) → IsPlaced setting i instance
      → (bit : Bit) → number_in (register_bits instance.definition) bit ≡ None
      → place_of (register_keys setting) (key_in instance.path bit) ≡ None
  pub driven_place : (setting : Setting) (i : ℕ) (instance : Instance) → IsPlaced setting i instance
      → (bit : Bit) (o : ℕ) → number_in (driven_bits (is_top instance) instance.definition) bit ≡ Some o
      → place_of (driven_keys setting) (key_in instance.path bit) ≡ Some (driven_before (instances setting) i + o)
  pub no_driven_place : (setting : Setting) (i : ℕ) (instance : Instance) → IsPlaced setting i instance
      → (bit : Bit) → number_in (driven_bits (is_top instance) instance.definition) bit ≡ None
      → place_of (driven_keys setting) (key_in instance.path bit) ≡ None
  -- The inputs are the top's: no key of another instance is among them.
  pub input_place : (setting : Setting) (m : Module) → top_module setting ≡ Some m → (bit : Bit)
      → place_of (input_keys setting) (key_in [] bit) ≡ number_in (input_bits setting.clock m) bit
  pub no_input_place : (setting : Setting) (key : Key) → same_path key.path [] ≡ false
      → place_of (input_keys setting) key ≡ None
  -- the edge of a bit
  pub register_edge : (setting : Setting) (m : Module) → top_module setting ≡ Some m → IsApart m
      → (i : ℕ) (instance : Instance) → IsPlaced setting i instance
      → (bit : Bit) (o : ℕ) → number_in (register_bits instance.definition) bit ≡ Some o
      → edge_of setting (key_in instance.path bit)
      ≡ plain (1 + length (input_keys setting) + (registers_before (instances setting) i + o))
  pub driven_edge : (setting : Setting) (i : ℕ) (instance : Instance) → IsPlaced setting i instance
      → (bit : Bit) (o : ℕ) → number_in (driven_bits (is_top instance) instance.definition) bit ≡ Some o
      → edge_of setting (key_in instance.path bit)
      ≡ plain
      (1 + length (input_keys setting) + length (register_keys setting) + (driven_before (instances setting) i + o))
  pub input_edge : (setting : Setting) (m : Module) → top_module setting ≡ Some m
      → (bit : Bit) (o : ℕ) → number_in (input_bits setting.clock m) bit ≡ Some o
      → edge_of setting (key_in [] bit) ≡ plain (1 + o)
  -- The edge of a bit that none of the lists has, as one of the top's clock, is 0.
  pub no_edge : (setting : Setting) (i : ℕ) (instance : Instance) → IsPlaced setting i instance
      → (bit : Bit) → number_in (register_bits instance.definition) bit ≡ None
      → number_in (driven_bits (is_top instance) instance.definition) bit ≡ None
      → (is_top instance ≡ true → number_in (input_bits setting.clock instance.definition) bit ≡ None)
      → edge_of setting (key_in instance.path bit) ≡ zero_edge
  -- how many of each there are
  pub register_count : (setting : Setting)
      → length (register_keys setting) ≡ registers_before (instances setting) (length (instances setting))
  pub driven_count : (setting : Setting)
      → length (driven_keys setting) ≡ driven_before (instances setting) (length (instances setting))
  pub input_count : (setting : Setting) (m : Module) → top_module setting ≡ Some m
      → length (input_keys setting) ≡ length (input_bits setting.clock m)
  -- The node at a place stands for the key at that place.
  pub key_place : (setting : Setting) (m : Module) → top_module setting ≡ Some m → IsApart m
      → AreDistinct (instances setting)
      → (place : ℕ) (key : Key) → place < length (keys_with_nodes setting)
      → slice_get (keys_with_nodes setting) place ≡ Some key → edge_of setting key ≡ plain (1 + place)

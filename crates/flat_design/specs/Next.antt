-- The next edges of a flat netlist have the bits of the next state.
use Rattle.std.specs.Prelude.{◌≡◌, ℕ, List, Bool, true, Some, IsSome, length, slice_get}
use Rattle.flat_net.specs.declared.edge.Edge.{Edge}
use Rattle.flat_net.specs.Nets.{Net}
use Rattle.flat_net.specs.Values.{edge_value_of}
use Rattle.vlog_tree.specs.declared.design.Module.{Module}
use Rattle.vlog_tree.specs.declared.key.Key.{Key}
use Rattle.vlog_tree.specs.Meaning.Instances.{top_module}
use Rattle.vlog_tree.specs.Meaning.Keys.{input_keys, is_key, register_keys}
use Rattle.vlog_tree.specs.Meaning.Names.{is_input}
use Rattle.vlog_tree.specs.Meaning.Setting.{Setting}
use Rattle.vlog_tree.specs.Meaning.Step.{next}
use Rattle.vlog_tree.specs.Meaning.Value.{value}
use Rattle.numbering.specs.Places.{IsApart}
use Rattle.design_laws.specs.Grammar.{design_is_by_grammar}
use Rattle.design_laws.specs.Sound.{IsSound}
use Rattle.flat_design.specs.Flat.{flat}

-- Where the next edge of a register has a value, and each bit of the design has one, it is the register's bit after the cycle.
pub record HasNext (setting : Setting) (net : Net) : Type 0 where
  pub count : length net.next ≡ length (register_keys setting)
  pub next : (state row : List Bool) → length state ≡ length (register_keys setting) → length row ≡ length (input_keys setting)
      → ((key : Key) → is_key setting key ≡ true → IsSome (value setting state row key))
      → (place : ℕ) (edge : Edge) → slice_get net.next place ≡ Some edge → (bit : Bool) → edge_value_of net state row edge ≡ Some bit
      → slice_get (next setting state row) place ≡ Some bit

-- The clock is an input of the top, which has no name that is both a register and an input.
abbrev pub FlatHasNext : Type 0
FlatHasNext =
    (setting : Setting) → IsSound setting → design_is_by_grammar setting.design ≡ true
    → (m : Module) → top_module setting ≡ Some m → IsApart m → is_input m setting.clock ≡ true
    → HasNext setting (flat setting)

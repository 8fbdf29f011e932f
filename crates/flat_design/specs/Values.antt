-- The flat netlist of a design has the values of the design.
use Rattle.std.specs.Prelude.{◌≡◌, ℕ, List, Bool, true, Some, length}
use Rattle.flat_net.specs.Nets.{Net}
use Rattle.flat_net.specs.Values.{edge_value_of, node_value_of}
use Rattle.vlog_tree.specs.declared.design.Module.{Module}
use Rattle.vlog_tree.specs.declared.key.Key.{Key}
use Rattle.vlog_tree.specs.Meaning.Instances.{top_module}
use Rattle.vlog_tree.specs.Meaning.Keys.{input_keys, register_keys}
use Rattle.vlog_tree.specs.Meaning.Names.{is_input}
use Rattle.vlog_tree.specs.Meaning.Setting.{Setting}
use Rattle.vlog_tree.specs.Meaning.Step.{bad, known}
use Rattle.vlog_tree.specs.Meaning.Value.{value}
use Rattle.numbering.specs.Numbering.{key_at}
use Rattle.numbering.specs.Places.{IsApart}
use Rattle.design_laws.specs.Sound.{IsSound}
use Rattle.flat_design.specs.Flat.{flat}
use Rattle.design_laws.specs.Grammar.{design_is_by_grammar}

-- Each bit with a node has the node's value: both have none where the bit reads itself.
pub record HasValues (setting : Setting) (net : Net) : Type 0 where
  pub values : (state row : List Bool) → length state ≡ length (register_keys setting)
      → length row ≡ length (input_keys setting) → (node : ℕ) (key : Key) → key_at setting node ≡ Some key
      → node_value_of net state row node ≡ value setting state row key
  pub check : (state row : List Bool) → length state ≡ length (register_keys setting)
      → length row ≡ length (input_keys setting)
      → known (edge_value_of net state row net.bad) ≡ bad setting state row

-- The clock is an input of the top, which has no name that is both a register and an input.
abbrev pub FlatHasValues : Type 0
FlatHasValues =
    (setting : Setting) → IsSound setting → design_is_by_grammar setting.design ≡ true
    → (m : Module) → top_module setting ≡ Some m → IsApart m → is_input m setting.clock ≡ true
    → HasValues setting (flat setting)

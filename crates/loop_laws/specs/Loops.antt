-- What loops of the flat netlist are to the design.
use Rattle.std.specs.Prelude.{◌≡◌, ◌<◌, ◌≤◌, ℕ, List, Bool, true, Some, IsSome, length, slice_get}
use Rattle.flat_net.specs.declared.edge.Edge.{Edge}
use Rattle.flat_net.specs.Values.{edge_value_of, node_value_of}
use Rattle.vlog_tree.specs.declared.design.Module.{Module}
use Rattle.vlog_tree.specs.declared.key.Key.{Key}
use Rattle.vlog_tree.specs.Meaning.Instances.{top_module}
use Rattle.vlog_tree.specs.Meaning.Keys.{input_keys, is_key, register_keys}
use Rattle.vlog_tree.specs.Meaning.Names.{is_input}
use Rattle.vlog_tree.specs.Meaning.Setting.{Setting}
use Rattle.vlog_tree.specs.Meaning.Step.{next as after}
use Rattle.vlog_tree.specs.Meaning.Value.{IsLoopFree, value}
use Rattle.numbering.specs.Numbering.{key_at}
use Rattle.numbering.specs.Places.{IsApart}
use Rattle.design_laws.specs.Grammar.{design_is_by_grammar}
use Rattle.design_laws.specs.Sound.{IsSound}
use Rattle.net_loops.specs.Loops.{ReadsItself}
use Rattle.flat_design.specs.Flat.{flat}

-- A sound design by the grammar, whose clock is an input of the top. The top has no name that is both a register and an
-- input.
pub record IsClockedDesign (setting : Setting) : Type 0 where
  pub sound : IsSound setting
  pub grammar : design_is_by_grammar setting.design ≡ true
  pub top : Module
  pub is_top : top_module setting ≡ Some top
  pub apart : IsApart top
  pub clock : is_input top setting.clock ≡ true

-- No node of the flat netlist reads itself.
abbrev pub IsFreeOfLoops : Setting → Type 0
IsFreeOfLoops setting = (node : ℕ) → ReadsItself (flat setting).nodes node → ⊥

pub record LoopsAreOfNodes : Type 0 where
  -- In a loop-free design no node reads itself.
  pub free : (setting : Setting) → IsClockedDesign setting → IsLoopFree setting → IsFreeOfLoops setting
  -- Where no node reads itself, the design is loop-free.
  pub loops : (setting : Setting) → IsClockedDesign setting → length (flat setting).nodes < 4294967296
      → IsFreeOfLoops setting → IsLoopFree setting
  -- The least node that reads itself stands for a bit.
  pub least : (setting : Setting) (node : ℕ) → ReadsItself (flat setting).nodes node
      → ((other : ℕ) → ReadsItself (flat setting).nodes other → node ≤ other)
      → (key : Key) × (key_at setting node ≡ Some key)
  -- Where no node reads itself, each node has a value in every state under every row,
  pub valued : (setting : Setting) → length (flat setting).nodes < 4294967296 → IsFreeOfLoops setting
      → (state row : List Bool) → length state ≡ length (register_keys setting)
      → length row ≡ length (input_keys setting) → (node : ℕ) → node < length (flat setting).nodes
      → IsSome (node_value_of (flat setting) state row node)
  -- and so has each next edge.
  pub next : (setting : Setting) → length (flat setting).nodes < 4294967296 → IsFreeOfLoops setting
      → (state row : List Bool) → length state ≡ length (register_keys setting)
      → length row ≡ length (input_keys setting) → (place : ℕ) (edge : Edge)
      → slice_get (flat setting).next place ≡ Some edge → IsSome (edge_value_of (flat setting) state row edge)
  -- In a loop-free design each key has a value,
  pub known : (setting : Setting) → IsLoopFree setting → (state row : List Bool)
      → length state ≡ length (register_keys setting) → length row ≡ length (input_keys setting)
      → (key : Key) → is_key setting key ≡ true → IsSome (value setting state row key)
  -- and the next edges have the bits of the next state.
  pub steps : (setting : Setting) → IsClockedDesign setting → length (flat setting).nodes < 4294967296
      → IsLoopFree setting → (state row : List Bool) → length state ≡ length (register_keys setting)
      → length row ≡ length (input_keys setting) → (place : ℕ) (edge : Edge)
      → slice_get (flat setting).next place ≡ Some edge
      → edge_value_of (flat setting) state row edge ≡ slice_get (after setting state row) place

-- The values of nodes are those of the bits that stand at them.
use Rattle.std.proofs.Common.{◌≡◌, ℕ, zero, suc, ◌+◌, Bool, true, false, List, [], ◌∷◌, Option, Some, None, refl, sym, ◌∙◌, ap, arith, cond, inl, inr, length, one-add, option_map, slice_get}
use Rattle.std.specs.List.{position}
use Rattle.std.specs.Option.{option_and_then, option_or, unwrap_or}
use Rattle.std.proofs.lemmas.Bool.{cases_Bool}
use Rattle.std.proofs.lemmas.Option.{none-some, slice_get_within}
use Rattle.flat_net.specs.Edges.{plain, zero_edge}
use Rattle.flat_net.specs.Orders.{IsBelow}
use Rattle.flat_net.specs.Values.{Reading, edge_value, node_value, node_value_of, within}
use Rattle.flat_net.specs.declared.node.Node.{Node}
use Rattle.flat_net.specs.declared.node.Node.TheVariants.{Zero}
use Rattle.flat_net.proofs.Rounds.{equal_by_below, none_below}
use Rattle.flat_net.proofs.ValueLemmas.{node_value_of_fixed, within_grows}
use Rattle.lowering.specs.Meaning.{Holds, IsAbove, Relation}
use Rattle.lowering.specs.Meaning as lowering
use Rattle.lowering.proofs.EdgeLemmas.{plain_value}
use Rattle.vlog_tree.specs.declared.key.Key.{Key}
use Rattle.vlog_tree.specs.Meaning.Instances.{module_at}
use Rattle.vlog_tree.specs.Meaning.Keys.{all_keys, input_keys, is_key, key_of, register_keys, same_key}
use Rattle.vlog_tree.specs.Meaning.Lefts.{bit_of}
use Rattle.vlog_tree.specs.Meaning.Setting.{Setting}
use Rattle.vlog_tree.specs.Meaning.Step.{bad, check_key, known}
use Rattle.vlog_tree.specs.Meaning.Value.{entry, inner_bit, is_clock, read, value, value_by}
use Rattle.vlog_tree.specs.Meaning.Value as meaning
use Rattle.value_laws.proofs.ValueLemmas.{value_fixed}
use Rattle.numbering.specs.Numbering.{edge_of, first_of_expressions, key_at, keys_with_nodes}
use Rattle.numbering.proofs.NumberEdgeLemmas.{numbers_bits}
use Rattle.design_laws.specs.Sound.{IsSound}
use Rattle.flat_design.specs.Flat.{flat, whole_of}
use Rattle.design_laws.specs.Grammar.{design_is_by_grammar}
use Rattle.flat_design.specs.Means.{IsRead, MeansDrives}
use Rattle.flat_design.specs.Values.{FlatHasValues}
use Rattle.flat_design.proofs.StandBits.{IsBitOf, key_is_bit, node_is_bit}
use Rattle.flat_design.proofs.StandLists.{keys_equal, placed_at}
use Rattle.flat_design.proofs.StandNodes.{expression_node}
use Rattle.flat_design.proofs.Stands.{HasEntries, IsClocked, Stands, key_stands}

-- ---- values of nodes

pub holds_each : (rel : Relation) (read : Reading) (state row : List Bool) (next : ℕ) (nodes : List Node)
    → ((k n : ℕ) (node : Node) → n ≡ next + k → slice_get nodes k ≡ Some node → rel (node_value state row read node) (read n))
    → Holds rel read state row next nodes
holds_each rel read state row next [] each = tt
holds_each rel read state row next (node ∷ nodes) each = (
  each 0 next node (omega arith) refl,
  holds_each rel read state row (next + 1) nodes (λ k n other e at. each (suc k) n other (omega (arith, e)) at),
)

module _ (means : MeansDrives) (setting : Setting) (sound : IsSound setting) (gates : design_is_by_grammar setting.design ≡ true)
    (clocked : IsClocked setting) (state row : List Bool) (entries : HasEntries setting state row) where
  -- the value of a node
  abbrev pub node_has : Reading
  node_has = node_value_of (flat setting) state row

  -- the same within so many steps
  abbrev steps_have : ℕ → Reading
  steps_have steps = within (flat setting).nodes state row steps

  abbrev pub has : Key → Option Bool
  has key = value setting state row key

  pub node_is : (number : ℕ) (node : Node) → slice_get (flat setting).nodes number ≡ Some node
      → node_has number ≡ node_value state row node_has node
  node_is number node there =
      node_value_of_fixed (flat setting) state row number ∙ ap (option_and_then (node_value state row node_has)) there

  step_is : (steps number : ℕ) (node : Node) → slice_get (flat setting).nodes number ≡ Some node
      → steps_have (suc steps) number ≡ node_value state row (steps_have steps) node
  step_is steps number node there = ap (option_and_then (node_value state row (steps_have steps))) there

  outside : (reading : meaning.Reading) (key : Key) → is_key setting key ≡ false → value_by setting state row reading key ≡ None
  outside reading key out = ap (λ b. cond b
      (option_or (entry (register_keys setting) state key)
      (option_or (entry (input_keys setting) row key)
      (cond (is_clock setting key) (Some false)
      (option_and_then (inner_bit setting reading key) (module_at setting key.path)))))
      None) out

  -- ---- what a bit has, its node has

  read_up : (steps : ℕ) → ((key : Key) → IsBelow (read setting state row steps key) (edge_value node_has (edge_of setting key)))
      → IsRead lowering.IsBelow setting (read setting state row steps) node_has state row
  read_up steps below = record {
    sound = sound;
    gates = gates;
    zero = λ value e. node_is 0 Zero refl ∙ e;
    names = λ i instance there name bit within. below (key_of instance.path name bit);
    holds = holds_each lowering.IsBelow node_has state row (first_of_expressions setting) (whole_of setting).nodes
        (λ k n node e at value h. node_is n node (expression_node setting k n e ∙ at) ∙ h);
  }

  up : (steps : ℕ) (key : Key) → IsBelow (read setting state row steps key) (edge_value node_has (edge_of setting key))
  up zero key = none_below (read setting state row zero key) (edge_value node_has (edge_of setting key)) refl
  up (suc steps) key =
      elim (cases_Bool (is_key setting key)) [
        | inl is ↦ one (up steps) (key_is_bit setting key is)
        | inr out ↦
            none_below (read setting state row (suc steps) key) (edge_value node_has (edge_of setting key))
            (outside (read setting state row steps) key out)
      ]
    where
      one : ((key : Key) → IsBelow (read setting state row steps key) (edge_value node_has (edge_of setting key))) → IsBitOf setting key
          → IsBelow (read setting state row (suc steps) key) (edge_value node_has (edge_of setting key))
      one below is =
          let at : Stands lowering.IsBelow setting state row (read setting state row steps) node_has key =
          key_stands lowering.IsBelow (λ a value e. e) means.drives_up means.ports_up setting clocked
          (read setting state row steps) node_has state row entries (read_up steps below) key is in
          λ value e.
          ap (edge_value node_has) at.edge
          ∙ sym (plain_value node_has at.number)
          ∙ node_is at.number at.node at.there
          ∙ at.means value e

  -- ---- what a node has, its bit has

  read_down : (steps : ℕ)
      → ((key : Key) → IsBitOf setting key → IsBelow (edge_value (steps_have steps) (edge_of setting key)) (has key))
      → IsRead IsAbove setting has (steps_have steps) state row
  read_down steps below = record {
    sound = sound;
    gates = gates;
    zero = λ value e. within_grows (flat setting).nodes state row steps (suc steps) 0 (omega arith) value e;
    names = λ i instance there name bit inside.
        below (key_of instance.path name bit)
        (record { i = i; instance = instance; there = there; bit = bit_of name bit; within = inside; named = refl });
    holds = holds_each IsAbove (steps_have steps) state row (first_of_expressions setting) (whole_of setting).nodes
        (λ k n node e at value h.
        sym (step_is steps n node (expression_node setting k n e ∙ at))
        ∙ within_grows (flat setting).nodes state row steps (suc steps) n (omega arith) value h);
  }

  down : (steps : ℕ) (key : Key) → IsBitOf setting key → IsBelow (edge_value (steps_have steps) (edge_of setting key)) (has key)
  down zero key is = none_below (edge_value (steps_have zero) (edge_of setting key)) (has key) refl
  down (suc steps) key is = one (down steps)
    where
      one : ((key : Key) → IsBitOf setting key → IsBelow (edge_value (steps_have steps) (edge_of setting key)) (has key))
          → IsBelow (edge_value (steps_have (suc steps)) (edge_of setting key)) (has key)
      one below =
          let at : Stands IsAbove setting state row has (steps_have steps) key =
          key_stands IsAbove (λ a value e. e) means.drives_down means.ports_down setting clocked has (steps_have steps)
          state row entries (read_down steps below) key is in
          λ value e.
          value_fixed setting state row key
          ∙ at.means value
          (sym (ap (edge_value (steps_have (suc steps))) at.edge
          ∙ sym (plain_value (steps_have (suc steps)) at.number)
          ∙ step_is steps at.number at.node at.there)
          ∙ e)

  -- ---- both

  pub bit_value : (key : Key) → IsBitOf setting key → has key ≡ edge_value node_has (edge_of setting key)
  bit_value key is =
      equal_by_below (has key) (edge_value node_has (edge_of setting key)) (up (length (all_keys setting)) key)
      (down (length (flat setting).nodes) key is)

  node_values : (node : ℕ) (key : Key) → key_at setting node ≡ Some key → node_has node ≡ has key
  node_values zero key at = absurd (none-some key at)
  node_values (suc place) key at =
      ap node_has (sym (one-add place))
      ∙ plain_value node_has (1 + place)
      ∙ sym (ap (edge_value node_has)
      (numbers_bits.key_place setting clocked.m clocked.top clocked.apart sound.distinct place key
      (slice_get_within (keys_with_nodes setting) place key at) at))
      ∙ sym (bit_value key (node_is_bit setting clocked.m clocked.top place key at))

  -- the edge of the checker, where the checker is no bit
  no_bit : (key : Key) (place : Option ℕ) → position (same_key key) (keys_with_nodes setting) ≡ place → is_key setting key ≡ false
      → known (edge_value node_has (edge_of setting key)) ≡ known (has key)
  no_bit key None nowhere out =
      ap (λ place. known (edge_value node_has (unwrap_or (option_map (λ place. plain (1 + place)) place) zero_edge))) nowhere
      ∙ ap known (sym (plain_value node_has 0) ∙ node_is 0 Zero refl)
      ∙ sym (ap known (value_fixed setting state row key ∙ outside has key out))
  no_bit key (Some place) at out =
      ap known (sym (bit_value key (node_is_bit setting clocked.m clocked.top place key
      (placed_at same_key keys_equal (keys_with_nodes setting) key place at))))

  check_value : known (edge_value node_has (edge_of setting (check_key setting))) ≡ bad setting state row
  check_value =
      elim (cases_Bool (is_key setting (check_key setting))) [
        | inl is ↦ ap known (sym (bit_value (check_key setting) (key_is_bit setting (check_key setting) is)))
        | inr out ↦ no_bit (check_key setting) (position (same_key (check_key setting)) (keys_with_nodes setting)) refl out
      ]

pub flat_has_values : MeansDrives → FlatHasValues
flat_has_values means setting sound gates m top apart clock = record {
  values = λ state row state_count row_count.
      node_values means setting sound gates (record { m = m; top = top; apart = apart; clock = clock }) state row
      (record { state_count = state_count; row_count = row_count });
  check = λ state row state_count row_count.
      check_value means setting sound gates (record { m = m; top = top; apart = apart; clock = clock }) state row
      (record { state_count = state_count; row_count = row_count });
}

-- The nodes of a flat netlist: the inputs, the registers, the driven bits and those of expressions.
use Rattle.std.proofs.Common.{◌≡◌, ℕ, suc, ◌+◌, ◌<◌, List, ◌++◌, Some, refl, sym, ◌∙◌, ap, arith, length, map, one-add, option_map, slice_get}
use Rattle.std.specs.List.{range_with_len}
use Rattle.std.proofs.lemmas.List.{length-append, length-map}
use Rattle.std.proofs.lemmas.List.FromFn.{length-map-range_with_len}
use Rattle.std.proofs.lemmas.Option.{slice_get-map}
use Rattle.flat_net.specs.declared.node.Node.{Node}
use Rattle.flat_net.specs.declared.node.Node.TheVariants.{Input, Reg, Zero}
use Rattle.flat_net.specs.Nets.{sources}
use Rattle.vlog_tree.specs.Meaning.Instances.{Instance, instances}
use Rattle.vlog_tree.specs.Meaning.Keys.{input_keys, register_keys}
use Rattle.vlog_tree.specs.Meaning.Lefts.{Bit}
use Rattle.vlog_tree.specs.Meaning.Setting.{Setting}
use Rattle.numbering.specs.Bits.{driven_bits}
use Rattle.numbering.specs.Frames.{driven_before}
use Rattle.numbering.specs.Numbering.{driven_keys, first_of_expressions, is_top}
use Rattle.numbering.proofs.NumberEdgeLemmas.{numbers_bits}
use Rattle.numbering.proofs.NumberListLemmas.{before, count_all, sum_before}
use Rattle.flat_design.specs.Flat.{driven_node, driven_nodes, driven_nodes_in, flat, whole_of}
use Rattle.flat_design.specs.Instances.{Whole}
use Rattle.flat_design.proofs.StandLists.{behind, flat_at, in_front, range_has}

-- ---- the first nodes

pub source_count : (inputs registers : ℕ) → length (sources inputs registers) ≡ 1 + inputs + registers
source_count inputs registers =
    let all : length (map Input (range_with_len 0 inputs) ++ map Reg (range_with_len 0 registers))
    ≡ length (map Input (range_with_len 0 inputs)) + length (map Reg (range_with_len 0 registers)) =
    length-append (map Input (range_with_len 0 inputs)) (map Reg (range_with_len 0 registers)) in
    let first : length (map Input (range_with_len 0 inputs)) ≡ inputs = length-map-range_with_len Input 0 inputs in
    let second : length (map Reg (range_with_len 0 registers)) ≡ registers = length-map-range_with_len Reg 0 registers in
    omega (arith, all, first, second)

mapped_range : (f : ℕ → Node) (count i : ℕ) → i < count → slice_get (map f (range_with_len 0 count)) i ≡ Some (f i)
mapped_range f count i within =
    slice_get-map f (range_with_len 0 count) i ∙ ap (option_map f) (range_has 0 count i i (omega arith) within)

input_source : (inputs registers place : ℕ) → place < inputs → slice_get (sources inputs registers) (1 + place) ≡ Some (Input place)
input_source inputs registers place within =
    ap (slice_get (sources inputs registers)) (one-add place)
    ∙ in_front (map Input (range_with_len 0 inputs)) (map Reg (range_with_len 0 registers)) place (Input place)
    (mapped_range Input inputs place within)

register_source : (inputs registers place : ℕ) → place < registers
    → slice_get (sources inputs registers) (1 + inputs + place) ≡ Some (Reg place)
register_source inputs registers place within =
    let first : length (map Input (range_with_len 0 inputs)) ≡ inputs = length-map-range_with_len Input 0 inputs in
    ap (slice_get (sources inputs registers)) {x = 1 + inputs + place} {y = suc (inputs + place)} (omega arith)
    ∙ behind (map Input (range_with_len 0 inputs)) (map Reg (range_with_len 0 registers)) (inputs + place) place (omega (arith, first))
    ∙ mapped_range Reg registers place within

-- ---- all nodes

module _ (setting : Setting) where
  abbrev rest_of : List Node
  rest_of = driven_nodes setting (whole_of setting) ++ (whole_of setting).nodes

  abbrev first_of : List Node
  first_of = sources (length (input_keys setting)) (length (register_keys setting))

  pub zero_node : slice_get (flat setting).nodes 0 ≡ Some Zero
  zero_node = refl

  pub input_node : (place : ℕ) → place < length (input_keys setting)
      → slice_get (flat setting).nodes (1 + place) ≡ Some (Input place)
  input_node place within =
      in_front first_of rest_of (1 + place) (Input place)
      (input_source (length (input_keys setting)) (length (register_keys setting)) place within)

  pub register_node : (place : ℕ) → place < length (register_keys setting)
      → slice_get (flat setting).nodes (1 + length (input_keys setting) + place) ≡ Some (Reg place)
  register_node place within =
      in_front first_of rest_of (1 + length (input_keys setting) + place) (Reg place)
      (register_source (length (input_keys setting)) (length (register_keys setting)) place within)

  driven_place : (whole : Whole) (i : ℕ) → before (driven_nodes_in whole) (instances setting) i ≡ driven_before (instances setting) i
  driven_place whole i =
      sym (sum_before (driven_nodes_in whole) (λ instance. length (driven_bits (is_top instance) instance.definition))
      (λ instance. sym (length-map (driven_bits (is_top instance) instance.definition) (driven_node whole instance)))
      (instances setting) i)

  pub driven_count : (whole : Whole) → length (driven_nodes setting whole) ≡ length (driven_keys setting)
  driven_count whole =
      count_all (driven_nodes_in whole) (instances setting)
      ∙ driven_place whole (length (instances setting))
      ∙ sym (numbers_bits.driven_count setting)

  pub driven_at : (i : ℕ) (instance : Instance) → slice_get (instances setting) i ≡ Some instance → (bit : Bit) (o : ℕ)
      → slice_get (driven_bits (is_top instance) instance.definition) o ≡ Some bit
      → slice_get (flat setting).nodes
      (1 + length (input_keys setting) + length (register_keys setting) + (driven_before (instances setting) i + o))
      ≡ Some (driven_node (whole_of setting) instance bit)
  driven_at i instance there bit o at =
      let whole : Whole = whole_of setting in
      let count : length first_of ≡ 1 + length (input_keys setting) + length (register_keys setting) =
      source_count (length (input_keys setting)) (length (register_keys setting)) in
      behind first_of rest_of
      (1 + length (input_keys setting) + length (register_keys setting) + (driven_before (instances setting) i + o))
      (driven_before (instances setting) i + o) (omega (arith, count))
      ∙ in_front (driven_nodes setting whole) whole.nodes (driven_before (instances setting) i + o) (driven_node whole instance bit)
      (ap (λ n. slice_get (driven_nodes setting whole) (n + o)) (sym (driven_place whole i))
      ∙ flat_at (driven_nodes_in whole) (instances setting) i instance o (driven_node whole instance bit) there
      (slice_get-map (driven_node whole instance) (driven_bits (is_top instance) instance.definition) o
      ∙ ap (option_map (driven_node whole instance)) at))

  -- The nodes of expressions stand behind those of bits.
  pub expression_node : (k n : ℕ) → n ≡ first_of_expressions setting + k
      → slice_get (flat setting).nodes n ≡ slice_get (whole_of setting).nodes k
  expression_node k n e =
      let whole : Whole = whole_of setting in
      let count : length first_of ≡ 1 + length (input_keys setting) + length (register_keys setting) =
      source_count (length (input_keys setting)) (length (register_keys setting)) in
      let driven : length (driven_nodes setting whole) ≡ length (driven_keys setting) = driven_count whole in
      let keys : length (input_keys setting ++ (register_keys setting ++ driven_keys setting))
      ≡ length (input_keys setting) + length (register_keys setting ++ driven_keys setting) =
      length-append (input_keys setting) (register_keys setting ++ driven_keys setting) in
      let others : length (register_keys setting ++ driven_keys setting) ≡ length (register_keys setting) + length (driven_keys setting) =
      length-append (register_keys setting) (driven_keys setting) in
      behind first_of rest_of n (length (driven_nodes setting whole) + k) (omega (arith, e, count, driven, keys, others))
      ∙ behind (driven_nodes setting whole) whole.nodes (length (driven_nodes setting whole) + k) k (omega arith)

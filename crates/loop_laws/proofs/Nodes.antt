-- Where the nodes stand that read themselves.
use Rattle.std.proofs.Common.{◌≡◌, ℕ, zero, suc, ◌+◌, ◌-◌, ◌<◌, ◌≤◌, List, [], ◌∷◌, ◌++◌, Option, Some, None, refl, sym, ◌∙◌, subst, arith, inl, inr, length, ltb, option_map, slice_get}
use Rattle.std.specs.List.{position}
use Rattle.std.specs.Option.{unwrap_or}
use Rattle.std.proofs.lemmas.Bool.{cases_Bool, ltb-false, ltb-true}
use Rattle.std.proofs.lemmas.List.{length-append}
use Rattle.std.proofs.lemmas.List.Quantifiers.{position-Some}
use Rattle.std.proofs.lemmas.Option.{none-some, same_Some, slice_get-get_or}
use Rattle.flat_net.specs.Edges.{plain, zero_edge}
use Rattle.flat_net.specs.Nets.{sources}
use Rattle.flat_net.specs.declared.node.Node.{Node}
use Rattle.flat_net.specs.declared.node.Node.TheVariants.{And, Buf, Input, Reg, Xor, Zero}
use Rattle.vlog_tree.specs.declared.key.Key.{Key}
use Rattle.vlog_tree.specs.Meaning.Keys.{input_keys, key_of, register_keys, same_key}
use Rattle.vlog_tree.specs.Meaning.Setting.{Setting}
use Rattle.numbering.specs.Numbering.{driven_keys, edge_of, first_of_expressions, key_at, keys_with_nodes}
use Rattle.net_loops.specs.Loops.{HasEdgeTo, Reads, ReadsItself}
use Rattle.net_loops.proofs.LoopLemmas.{leads_more}
use Rattle.flat_design.specs.Flat.{driven_nodes, flat, whole_of}
use Rattle.flat_design.specs.Instances.{Whole}
use Rattle.flat_design.specs.Order.{AreOrdered, ReadsBelow}
use Rattle.flat_design.proofs.OrderItemLemmas.{expressions_ordered}
use Rattle.flat_design.proofs.StandNodes.{driven_count, expression_node, source_count, zero_node}

-- ---- counts

-- The nodes of bits are all there.
pub bits_within : (setting : Setting) → first_of_expressions setting ≤ length (flat setting).nodes
bits_within setting =
    let whole : Whole = whole_of setting in
    let first : List Node = sources (length (input_keys setting)) (length (register_keys setting)) in
    let driven : List Node = driven_nodes setting whole in
    let all : length (first ++ (driven ++ whole.nodes)) ≡ length first + length (driven ++ whole.nodes) =
    length-append first (driven ++ whole.nodes) in
    let rest : length (driven ++ whole.nodes) ≡ length driven + length whole.nodes = length-append driven whole.nodes in
    let count : length first ≡ 1 + length (input_keys setting) + length (register_keys setting) =
    source_count (length (input_keys setting)) (length (register_keys setting)) in
    let bits : length driven ≡ length (driven_keys setting) = driven_count setting whole in
    let keys : length (input_keys setting ++ (register_keys setting ++ driven_keys setting))
    ≡ length (input_keys setting) + length (register_keys setting ++ driven_keys setting) =
    length-append (input_keys setting) (register_keys setting ++ driven_keys setting) in
    let others : length (register_keys setting ++ driven_keys setting) ≡ length (register_keys setting) + length (driven_keys setting) =
    length-append (register_keys setting) (driven_keys setting) in
    omega (arith, all, rest, count, bits, keys, others)

edge_at : (setting : Setting) (key : Key) (found : Option ℕ) → position (same_key key) (keys_with_nodes setting) ≡ found
    → (unwrap_or (option_map (λ place. plain (1 + place)) found) zero_edge).node < length (flat setting).nodes
edge_at setting key None at = let h = bits_within setting in omega (arith, h)
edge_at setting key (Some place) at =
    let h = bits_within setting in
    let inside : place < length (keys_with_nodes setting) =
    (position-Some (same_key key) (keys_with_nodes setting) place key at).0 in
    omega (arith, h, inside)

-- The edge of a bit names a node.
pub edge_within : (setting : Setting) (key : Key) → (edge_of setting key).node < length (flat setting).nodes
edge_within setting key = edge_at setting key (position (same_key key) (keys_with_nodes setting)) refl

-- ---- nodes in order

reads_before : (number next : ℕ) (node : Node) → ReadsBelow number node → HasEdgeTo node next → next < number
reads_before number next Zero below edge = absurd below
reads_before number next (Input place) below edge = absurd below
reads_before number next (Reg place) below edge = absurd below
reads_before number next (Buf edge) below is = absurd below
reads_before number next (And left right) below (inl is) = subst (λ n. n < number) is below.0
reads_before number next (And left right) below (inr is) = subst (λ n. n < number) is below.1
reads_before number next (Xor left right) below (inl is) = subst (λ n. n < number) is below.0
reads_before number next (Xor left right) below (inr is) = subst (λ n. n < number) is below.1

ordered_at : (start : ℕ) (nodes : List Node) → AreOrdered start nodes → (k n : ℕ) (node : Node) → n ≡ start + k
    → slice_get nodes k ≡ Some node → ReadsBelow n node
ordered_at start [] ordered k n node e at = absurd (none-some node at)
ordered_at start (first ∷ nodes) ordered zero n node e at =
    subst (ReadsBelow n) (same_Some first node at) (subst (λ n. ReadsBelow n first) {x = start} {y = n} (omega (arith, e)) ordered.0)
ordered_at start (first ∷ nodes) ordered (suc k) n node e at =
    ordered_at (start + 1) nodes ordered.1 k n node (omega (arith, e)) at

no_source : (node : Node) (next : ℕ) → Zero ≡ node → HasEdgeTo node next → ⊥
no_source node next is edge = subst (λ (one : Node). HasEdgeTo one next) (sym is) edge

module _ (setting : Setting) where
  abbrev nodes : List Node
  nodes = (flat setting).nodes

  -- a node that reads itself, and what it reads so
  record Turns (node : ℕ) : Type 0 where
    next : ℕ
    reads : Reads nodes node next
    loop : ReadsItself nodes next

  turned : (node : ℕ) → ReadsItself nodes node → Turns node
  turned node (count, (next, (reads, way))) =
      record { next = next; reads = reads; loop = (count, leads_more nodes count next node next way reads) }

  -- A node of an expression reads nodes before it.
  before_it : (node next : ℕ) → first_of_expressions setting ≤ node → Reads nodes node next → next < node
  before_it node next h reads =
      let k : ℕ = node - first_of_expressions setting in
      let e : node ≡ first_of_expressions setting + k = omega (arith, h) in
      reads_before node next reads.node
      (ordered_at (first_of_expressions setting) (whole_of setting).nodes (expressions_ordered setting) k node reads.node e
      (sym (expression_node setting k node e) ∙ reads.there)) reads.edge

  -- A node before those of expressions that reads itself stands for a bit.
  pub key_there : (node : ℕ) → node < first_of_expressions setting → ReadsItself nodes node
      → (key : Key) × (key_at setting node ≡ Some key)
  key_there zero h loop =
      let turn : Turns zero = turned zero loop in
      let source : Zero ≡ turn.reads.node = same_Some Zero turn.reads.node (sym (zero_node setting) ∙ turn.reads.there) in
      absurd (no_source turn.reads.node turn.next source turn.reads.edge)
  key_there (suc place) h loop = (
    _,
    slice_get-get_or (keys_with_nodes setting) place (key_of [] [] 0) (omega (arith, h)),
  )

  -- The least node that reads itself stands for a bit.
  pub least_key : (node : ℕ) → ReadsItself nodes node → ((other : ℕ) → ReadsItself nodes other → node ≤ other)
      → (key : Key) × (key_at setting node ≡ Some key)
  least_key node loop least = elim (cases_Bool (ltb node (first_of_expressions setting))) [
    | inl is ↦ key_there node (ltb-true node (first_of_expressions setting) is) loop
    | inr not ↦ (
        let turn : Turns node = turned node loop in
        let below : turn.next < node = before_it node turn.next (ltb-false node (first_of_expressions setting) not) turn.reads in
        let above : node ≤ turn.next = least turn.next turn.loop in
        absurd (omega (arith, below, above)))
  ]

  -- a node that reads itself and stands for a bit
  pub record Stands : Type 0 where
    pub node : ℕ
    pub loop : ReadsItself nodes node
    pub key : Key
    pub at : key_at setting node ≡ Some key

  -- Where some node reads itself, one does that stands for a bit.
  pub some_key : (fuel node : ℕ) → node < fuel → ReadsItself nodes node → Stands
  some_key zero node h loop = absurd (omega (arith, h))
  some_key (suc fuel) node h loop = elim (cases_Bool (ltb node (first_of_expressions setting))) [
    | inl is ↦ (
        let found = key_there node (ltb-true node (first_of_expressions setting) is) loop in
        record { node = node; loop = loop; key = found.0; at = found.1 })
    | inr not ↦ (
        let turn : Turns node = turned node loop in
        let below : turn.next < node = before_it node turn.next (ltb-false node (first_of_expressions setting) not) turn.reads in
        some_key fuel turn.next (omega (arith, below, h)) turn.loop)
  ]

-- The order in the end.
use Rattle.std.specs.Prelude.{◌≡◌, ◌↔◌, ℕ, zero, suc, ◌+◌, ◌<◌, ◌≤◌, IsTrue, List, [], Bool, true, false, Some, length, slice_get}
use Rattle.std.proofs.Common.{ap, arith, inl, inr, sym, ◌∙◌, subst}
use Rattle.std.proofs.lemmas.Option.{none-some, slice_get_within}
use Rattle.flat_net.specs.declared.node.Node.{Node}
use Rattle.net_loops.specs.Loops.{Leads, ReadsItself}
use Rattle.net_order.specs.Faults.{IsLeastLoop}
use Rattle.net_order.specs.Marks.{Marked}
use Rattle.net_order.specs.Orders.{IsOrder}
use Rattle.net_order.specs.Walks.{ArePlaced, IsWalk, Progress}
use Rattle.net_order.proofs.ListLemmas.{same_or_not}

-- ---- what is placed does not read itself

module _ (nodes : List Node) (done : List Bool) (order : List ℕ) (placed : ArePlaced nodes done order) where
  -- readings lead to earlier places
  earlier : (count from to place : ℕ) → slice_get order place ≡ Some from → Leads nodes count from to
      → (before : ℕ) × ((before + count ≤ place) × (slice_get order before ≡ Some to))
  earlier zero from to place at same = (place, (omega arith, at ∙ ap Some same))
  earlier (suc count) from to place at (next, (reads, way)) =
      let first = placed.after place from next at reads in
      let other = earlier count next to first.0 first.1.1 way in
      (other.0, (omega (arith, first.1.0, other.1.0), other.1.1))

  placed_apart : (node : ℕ) → Marked done node → ReadsItself nodes node → ⊥
  placed_apart node marked way =
      let stands = placed.stands node marked in
      let before = earlier (suc way.0) node node stands.0 stands.1 way.1 in
      let same = placed.once before.0 stands.0 node before.1.1 stands.1 in
      omega (arith, before.1.0, same)

-- ---- the order

module _ (nodes : List Node) (walk : Progress) (is : IsWalk nodes walk) (none : walk.stack ≡ [])
    (all : (node : ℕ) → node < length nodes → Marked walk.seen node) where
  all_done : (node : ℕ) → node < length nodes → Marked walk.done node
  all_done node inside = elim (is.known node (all node inside)) [
    | inl done ↦ done
    | inr stands ↦ absurd (none-some node (ap (λ stack. slice_get stack stands.0) (sym none) ∙ stands.1))
  ]

  pub ordered : IsOrder nodes walk.order
  ordered = record {
    within = λ place node at.
        let inside = slice_get_within walk.done node _ (is.placed.marked place node at) in
        omega (arith, inside, is.done_count);
    all = λ node inside. is.placed.stands node (all_done node inside);
    once = is.placed.once;
    after = is.placed.after;
  }

  pub none_reads_itself : (node : ℕ) → ReadsItself nodes node → ⊥
  none_reads_itself node (count, (next, (reads, way))) =
      placed_apart nodes walk.done walk.order is.placed node (all_done node (slice_get_within nodes node reads.node reads.there))
      (count, (next, (reads, way)))

-- ---- the least node that reads itself

-- One more does not read itself.
pub none_more : (nodes : List Node) (tried : ℕ) (answer : Bool) → IsTrue answer ↔ ReadsItself nodes tried → answer ≡ false
    → ((other : ℕ) → other < tried → ReadsItself nodes other → ⊥) → (other : ℕ) → other < tried + 1 → ReadsItself nodes other → ⊥
none_more nodes tried answer is not before other below way = elim (same_or_not other tried) [
  | inl same ↦
      let yes_it_is : answer ≡ true = is.1 (subst (λ one. ReadsItself nodes one) same way) in
      let apart : true ≡ false = sym yes_it_is ∙ not in
      absurd (cc)
  | inr apart ↦ before other (omega arith) way
]

pub least_of : (nodes : List Node) (node : ℕ) → ReadsItself nodes node → (tried : ℕ) → node ≤ tried
    → ((other : ℕ) → other < tried → ReadsItself nodes other → ⊥) → IsLeastLoop nodes node
least_of nodes node way tried reached before = record {
  loop = way;
  least = λ other below. before other (omega arith);
}

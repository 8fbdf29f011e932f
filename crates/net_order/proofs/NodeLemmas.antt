-- What nodes read.
use Rattle.std.specs.Prelude.{◌≡◌, ◌⊎◌, ℕ, ◌<◌, List, Bool, false, MatchOption, Option, None, Some, length, slice_get}
use Rattle.std.proofs.Common.{ap, get_or, inl, inr, sym, ◌∙◌, subst}
use Rattle.std.proofs.lemmas.Option.{slice_get-get_or}
use Rattle.flat_net.specs.declared.node.Node.{Node}
use Rattle.flat_net.specs.declared.node.Node.TheVariants.{And, Buf, Input, Reg, Xor, Zero}
use Rattle.flat_net.specs.Nets.{IsNet, Net}
use Rattle.net_loops.specs.Loops.{HasEdgeTo, Reads}
use Rattle.net_loops.proofs.SourceLemmas.{IsGood, net_good}
use Rattle.net_order.specs.Marks.{Marked}
use Rattle.net_order.specs.Readings.{IsPending}
use Rattle.net_order.proofs.ListLemmas.{some_same}

-- what a node reads by its kind is below the count
good_edge : (inputs registers count : ℕ) (node : Node) (next : ℕ) → IsGood inputs registers count node → HasEdgeTo node next → next < count
good_edge inputs registers count Zero next good edge = absurd edge
good_edge inputs registers count (Input place) next good edge = absurd edge
good_edge inputs registers count (Reg place) next good edge = absurd edge
good_edge inputs registers count (Buf edge) next good is = subst (λ n. n < count) is good
good_edge inputs registers count (And left right) next good (inl is) = subst (λ n. n < count) is good.0
good_edge inputs registers count (And left right) next good (inr is) = subst (λ n. n < count) is good.1
good_edge inputs registers count (Xor left right) next good (inl is) = subst (λ n. n < count) is good.0
good_edge inputs registers count (Xor left right) next good (inr is) = subst (λ n. n < count) is good.1

pub edge_within : (net : Net) → IsNet net → (node next : ℕ) → Reads net.nodes node next → next < length net.nodes
edge_within net is node next reads =
    good_edge net.inputs (length net.power_up) (length net.nodes) reads.node next (net_good net is node reads.node reads.there) reads.edge

-- what is read by the node that stands there
pub reads_back : (nodes : List Node) (place : ℕ) (node : Node) → slice_get nodes place ≡ Some node → (next : ℕ) →
    Reads nodes place next → HasEdgeTo node next
reads_back nodes place node there next reads =
    subst (λ one. HasEdgeTo one next) (some_same reads.node node (sym reads.there ∙ there)) reads.edge

pub reads_to : (nodes : List Node) (place : ℕ) (node : Node) → slice_get nodes place ≡ Some node → (next : ℕ) →
    HasEdgeTo node next → Reads nodes place next
reads_to nodes place node there next edge = record { node = node; there = there; edge = edge }

-- ---- what stands at a number of the nodes that are shown

module _ (net : Net) (is : IsNet net) (shown : List Node) (same : shown ≡ net.nodes) (number : ℕ) (inside : number < length net.nodes)
    (node : Node)
    (at : get_or shown number Zero ≡ node) where
  pub there : slice_get net.nodes number ≡ Some node
  there =
      slice_get-get_or net.nodes number Zero inside ∙ ap Some (ap (λ nodes. get_or nodes number Zero) (sym same) ∙ at)

  pub edge_in : (marks : List Bool) → length marks ≡ length net.nodes → (next : ℕ) → HasEdgeTo node next → next < length marks
  edge_in marks count next edge =
      subst (λ n. next < n) (sym count) (edge_within net is number next (reads_to net.nodes number node there next edge))

  pub read_back : (next : ℕ) → Reads net.nodes number next → HasEdgeTo node next
  read_back next reads = reads_back net.nodes number node there next reads

  pub read_to : (next : ℕ) → HasEdgeTo node next → Reads net.nodes number next
  read_to next edge = reads_to net.nodes number node there next edge

  -- ---- which of those that it reads has no mark

  pub pending_of : (marks : List Bool) (result : Option ℕ)
      → MatchOption result ((next : ℕ) → HasEdgeTo node next → Marked marks next)
      (λ next. HasEdgeTo node next × (slice_get marks next ≡ Some false))
      → MatchOption result ((next : ℕ) → Reads net.nodes number next → Marked marks next) (λ next. IsPending net.nodes marks number next)
  pending_of marks None all = λ next reads. all next (read_back next reads)
  pending_of marks (Some next) one = record { reads = read_to next one.0; not_marked = one.1 }

pub of_one : (marks : List Bool) (place : ℕ) (result : Option ℕ)
    → MatchOption result (Marked marks place) (λ next. (place ≡ next) × (slice_get marks next ≡ Some false))
    → MatchOption result ((next : ℕ) → place ≡ next → Marked marks next) (λ next. (place ≡ next) × (slice_get marks next ≡ Some false))
of_one marks place None is = λ next same. subst (λ one. Marked marks one) same is
of_one marks place (Some next) is = is

pub of_two : (marks : List Bool) (left right : ℕ) (result : Option ℕ)
    → MatchOption result (Marked marks left × Marked marks right)
    (λ next. ((left ≡ next) ⊎ (right ≡ next)) × (slice_get marks next ≡ Some false))
    → MatchOption result ((next : ℕ) → (left ≡ next) ⊎ (right ≡ next) → Marked marks next)
    (λ next. ((left ≡ next) ⊎ (right ≡ next)) × (slice_get marks next ≡ Some false))
of_two marks left right None is = λ next same. elim same [
  | inl first ↦ subst (λ one. Marked marks one) first is.0
  | inr second ↦ subst (λ one. Marked marks one) second is.1
]
of_two marks left right (Some next) is = is

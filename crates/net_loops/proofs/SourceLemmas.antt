-- What stands at the places of a net: sources with their numbers, and nodes whose edges name nodes.
use Rattle.std.specs.Prelude.{◌≡◌, ⊤, ℕ, zero, suc, ◌+◌, ◌<◌, ◌≤◌, List, [], ◌∷◌, ◌++◌, Option, Some, None, length, map, slice_get}
use Rattle.std.specs.List.{AllByRecursion, range_with_len}
use Rattle.std.proofs.Common.{ap, arith, sym, ◌∙◌, subst}
use Rattle.std.proofs.lemmas.List.Elements.{recursion_from_All}
use Rattle.std.proofs.lemmas.Option.{none-some}
use Rattle.flat_net.specs.declared.node.Node.{Node}
use Rattle.flat_net.specs.declared.node.Node.TheVariants.{And, Buf, Input, Reg, Xor, Zero}
use Rattle.flat_net.specs.Nets.{IsInner, IsNet, IsWithin, Net, sources}

-- a source with a number below its count, or a node whose edges name nodes
abbrev pub IsGood : ℕ → ℕ → ℕ → Node → Type 0
IsGood inputs registers count Zero = ⊤
IsGood inputs registers count (Input place) = place < inputs
IsGood inputs registers count (Reg place) = place < registers
IsGood inputs registers count (Buf edge) = IsWithin count edge
IsGood inputs registers count (And left right) = IsWithin count left × IsWithin count right
IsGood inputs registers count (Xor left right) = IsWithin count left × IsWithin count right

module _ (inputs registers count : ℕ) where
  inner_good : (node : Node) → IsInner count node → IsGood inputs registers count node
  inner_good Zero inner = tt
  inner_good (Input place) inner = absurd inner
  inner_good (Reg place) inner = absurd inner
  inner_good (Buf edge) inner = inner
  inner_good (And left right) inner = inner
  inner_good (Xor left right) inner = inner

  inners_good : (nodes : List Node) → AllByRecursion (IsInner count) nodes → AllByRecursion (IsGood inputs registers count) nodes
  inners_good [] all = tt
  inners_good (node ∷ nodes) (first, others) = (inner_good node first, inners_good nodes others)

  inputs_good : (from length : ℕ) → from + length ≤ inputs → AllByRecursion (IsGood inputs registers count) (map Input (range_with_len from length))
  inputs_good from zero within = tt
  inputs_good from (suc length) within = (omega arith, inputs_good (from + 1) length (omega arith))

  registers_good : (from length : ℕ) → from + length ≤ registers → AllByRecursion (IsGood inputs registers count) (map Reg (range_with_len from length))
  registers_good from zero within = tt
  registers_good from (suc length) within = (omega arith, registers_good (from + 1) length (omega arith))

  both_good : (first second : List Node) → AllByRecursion (IsGood inputs registers count) first
      → AllByRecursion (IsGood inputs registers count) second → AllByRecursion (IsGood inputs registers count) (first ++ second)
  both_good [] second all rest = rest
  both_good (node ∷ first) second (here, all) rest = (here, both_good first second all rest)

  abbrev IsGoodAt : Option Node → Type 0
  IsGoodAt None = ⊤
  IsGoodAt (Some node) = IsGood inputs registers count node

  good_at : (nodes : List Node) → AllByRecursion (IsGood inputs registers count) nodes
      → (place : ℕ) (node : Node) → slice_get nodes place ≡ Some node → IsGood inputs registers count node
  good_at [] all place node at = absurd (none-some node at)
  good_at (first ∷ nodes) (here, all) zero node at = subst (λ (found : Option Node). IsGoodAt found) at here
  good_at (first ∷ nodes) (here, all) (suc place) node at = good_at nodes all place node at

pub net_good : (net : Net) → IsNet net → (place : ℕ) (node : Node) → slice_get net.nodes place ≡ Some node
    → IsGood net.inputs (length net.power_up) (length net.nodes) node
net_good net is place node at =
    let inputs : ℕ = net.inputs in
    let registers : ℕ = length net.power_up in
    let count : ℕ = length net.nodes in
    let front = both_good inputs registers count (map Input (range_with_len 0 inputs)) (map Reg (range_with_len 0 registers))
    (inputs_good inputs registers count 0 inputs (omega arith)) (registers_good inputs registers count 0 registers (omega arith)) in
    let back = inners_good inputs registers count is.inner (recursion_from_All (IsInner count) is.inner is.inner_within) in
    good_at inputs registers count (sources inputs registers ++ is.inner)
    (both_good inputs registers count (sources inputs registers) is.inner (tt, front) back) place node
    (sym (ap (λ nodes. slice_get nodes place) is.nodes) ∙ at)

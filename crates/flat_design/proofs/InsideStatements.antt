-- The nodes and edges of statements stay within a count of nodes.
use Rattle.std.specs.Prelude.{ℕ, ◌+◌, ◌<◌, List, [], ◌∷◌, ◌++◌, Option, None, Some, length, map, slice_index_or}
use Rattle.std.proofs.Common.{◌≡◌, arith, sym, subst}
use Rattle.std.proofs.lemmas.List.{length-append}
use Rattle.flat_net.specs.declared.edge.Edge.{Edge}
use Rattle.flat_net.specs.declared.node.Node.{Node}
use Rattle.flat_net.specs.Edges.{zero_edge}
use Rattle.flat_net.specs.Nets.{IsInner, IsWithin}
use Rattle.vlog_tree.specs.declared.design.Module.{Module}
use Rattle.vlog_tree.specs.declared.expr.Expr.{Expr}
use Rattle.vlog_tree.specs.declared.left.Left.{Left}
use Rattle.vlog_tree.specs.declared.stmt.Stmt.{Stmt, map-Stmt, roll-Stmt}
use Rattle.vlog_tree.specs.declared.stmt.Stmt.TheFolds.{fold-roll-Stmt, ind-Stmt}
use Rattle.vlog_tree.specs.declared.stmt.Stmt.TheOpen.{Stmt-F}
use Rattle.vlog_tree.specs.Meaning.Lefts.{Bit, left_bits, number_in}
use Rattle.vlog_tree.specs.Meaning.Uses.{Text}
use Rattle.lowering.specs.Expressions.{Wires, assigned, condition, only}
use Rattle.lowering.specs.Gates.{chosen_bits}
use Rattle.lowering.specs.Lowered.{Lowered}
use Rattle.processes.specs.Statements.{Change, Changed, Process, Registers, branched, in_order, merged, no_change, nothing, ordered, process_at, process_of, replaced, set, then_change}
use Rattle.flat_design.proofs.InsideLists.{Each, each-append, each-index, each-map}
use Rattle.flat_design.proofs.InsideLowered.{AreInner, AreWithin, HasRoom, StaysWithin, inside_assigned, inside_condition, inside_pairs, only_within, room_first, room_rest}

module _ (bound : ℕ) (positive : 0 < bound) where
  abbrev pub AreRegistersWithin : Registers → Type 0
  AreRegistersWithin registers = (bit : Bit) → IsWithin bound (registers bit)

  pub record ChangesWithin (done : Changed) : Type 0 where
    pub nodes : AreInner bound done.nodes
    pub registers : AreRegistersWithin done.registers

  -- A change of edges within the count stays within it, where its nodes fit.
  abbrev pub IsChangeInside : Change → Type 0
  IsChangeInside change =
      (before : Registers) → AreRegistersWithin before → (next : ℕ) → HasRoom bound next (change before next).nodes
      → ChangesWithin (change before next)

  replaced_within : (bits : List Bit) (edges : List Edge) (before : Registers) → AreWithin bound edges → AreRegistersWithin before
      → AreRegistersWithin (replaced bits edges before)
  replaced_within bits edges before h k bit =
      elim (number_in bits bit) as (λ found. IsWithin bound (elim found as (λ number. Edge) [
        | Some number ↦ slice_index_or edges number zero_edge
        | None ↦ before bit
      ])) [
        | Some number ↦ each-index (IsWithin bound) edges number zero_edge h positive
        | None ↦ k bit
      ]

  no_change_inside : IsChangeInside no_change
  no_change_inside before is next room = record { nodes = tt; registers = is }

  then_inside : (first rest : Change) → IsChangeInside first → IsChangeInside rest → IsChangeInside (then_change first rest)
  then_inside first rest h k before is next room =
      let one : Changed = first before next in
      let two : Changed = rest one.registers (next + length one.nodes) in
      let here : ChangesWithin one = h before is next (room_first bound next one.nodes two.nodes room) in
      let there : ChangesWithin two =
      k one.registers here.registers (next + length one.nodes) (room_rest bound next one.nodes two.nodes room) in
      record { nodes = each-append (IsInner bound) one.nodes two.nodes here.nodes there.nodes; registers = there.registers }

  abbrev IsProcessInside : Process → Type 0
  IsProcessInside one = IsChangeInside one.change

  order_inside : (body : List Process) → Each IsProcessInside body → IsChangeInside (in_order body)
  order_inside [] h = no_change_inside
  order_inside (one ∷ others) h = then_inside one.change (in_order others) h.0 (order_inside others h.1)

  merged_inside : (m : Module) (choice : Edge) (bits : List Bit) (first second : Registers) → IsWithin bound choice
      → AreRegistersWithin first → AreRegistersWithin second → IsChangeInside (merged m choice bits first second)
  merged_inside m choice bits first second is h k before safe next room =
      let left : List Edge = map first (ordered m bits) in
      let right : List Edge = map second (ordered m bits) in
      let done : StaysWithin bound (chosen_bits choice left right next) =
      inside_pairs bound choice is left right (each-map (IsWithin bound) first h (ordered m bits))
      (each-map (IsWithin bound) second k (ordered m bits)) next room in
      record {
        nodes = done.nodes;
        registers = replaced_within (ordered m bits) (chosen_bits choice left right next).edges before done.edges safe;
      }

  module _ (m : Module) (wires : Wires) (named : (name : Text) (bit : ℕ) → IsWithin bound (wires name bit)) where
    set_inside : (left : Left) (right : Expr) → IsChangeInside (set m wires left right)
    set_inside left right before safe next room =
        let count : ℕ = length (left_bits m left) in
        let done : StaysWithin bound (assigned m wires count right next) =
        inside_assigned bound positive m wires named count right next room in
        record {
          nodes = done.nodes;
          registers = replaced_within (left_bits m left) (assigned m wires count right next).edges before done.edges safe;
        }

    branched_inside : (test : Expr) (first second : Process) → IsProcessInside first → IsProcessInside second
        → IsChangeInside (λ before next. branched m (condition m wires test next) first second before next)
    branched_inside test first second h k before safe next room =
        let asked : Lowered = condition m wires test next in
        let from_one : ℕ = next + length asked.nodes in
        let one : Changed = first.change before from_one in
        let from_two : ℕ = from_one + length one.nodes in
        let two : Changed = second.change before from_two in
        let from_end : ℕ = from_two + length two.nodes in
        let end : Changed =
        merged m (only asked.edges) (first.assigns ++ second.assigns) one.registers two.registers before from_end in
        let two_nodes : List Node = asked.nodes ++ one.nodes in
        let three_nodes : List Node = two_nodes ++ two.nodes in
        let count_two : length two_nodes ≡ length asked.nodes + length one.nodes = length-append asked.nodes one.nodes in
        let count_three : length three_nodes ≡ length two_nodes + length two.nodes = length-append two_nodes two.nodes in
        let room_three : HasRoom bound next three_nodes = room_first bound next three_nodes end.nodes room in
        let room_two : HasRoom bound next two_nodes = room_first bound next two_nodes two.nodes room_three in
        let room_end : HasRoom bound (next + length three_nodes) end.nodes = room_rest bound next three_nodes end.nodes room in
        let on_test : StaysWithin bound asked =
        inside_condition bound positive m wires named test next (room_first bound next asked.nodes one.nodes room_two) in
        let on_one : ChangesWithin one = h before safe from_one (room_rest bound next asked.nodes one.nodes room_two) in
        let on_two : ChangesWithin two = k before safe from_two (omega (arith, room_three, count_two, count_three)) in
        let on_end : ChangesWithin end =
        merged_inside m (only asked.edges) (first.assigns ++ second.assigns) one.registers two.registers
        (only_within bound positive asked.edges on_test.edges) on_one.registers on_two.registers before safe from_end
        (omega (arith, room_end, count_two, count_three)) in
        record {
          nodes =
              each-append (IsInner bound) three_nodes end.nodes
              (each-append (IsInner bound) two_nodes two.nodes
              (each-append (IsInner bound) asked.nodes one.nodes on_test.nodes on_one.nodes) on_two.nodes) on_end.nodes;
          registers = on_end.registers;
        }

    abbrev pub StatementInside : Stmt → Type 0
    StatementInside stmt = IsProcessInside (process_of m wires stmt)

    level : (x : Stmt-F Stmt) → IsProcessInside (process_at m wires (map-Stmt Stmt Process (process_of m wires) x))
        → StatementInside (roll-Stmt x)
    level x h = subst IsProcessInside (sym (fold-roll-Stmt Process (process_at m wires) x)) h

    abbrev Proved : Type 0
    Proved = (stmt : Stmt) × StatementInside stmt

    abbrev bare : List Proved → List Stmt
    bare body = map (λ stmt. stmt.0) body

    body_inside : (body : List Proved) → Each IsProcessInside (map (process_of m wires) (bare body))
    body_inside [] = tt
    body_inside (stmt ∷ body) = (stmt.1, body_inside body)

    abbrev FormInside : Stmt-F Stmt → Type 0
    FormInside x = StatementInside (roll-Stmt x)

    if_inside : (test : Expr) (first : Proved) (other : Option Proved)
        → FormInside (map-Stmt Proved Stmt (λ stmt. stmt.0) (Stmt-F.If test first other))
    if_inside test first None =
        level (Stmt-F.If test first.0 None) (branched_inside test (process_of m wires first.0) nothing first.1 no_change_inside)
    if_inside test first (Some other) =
        level (Stmt-F.If test first.0 (Some other.0))
        (branched_inside test (process_of m wires first.0) (process_of m wires other.0) first.1 other.1)

    form : (y : Stmt-F Proved) → FormInside (map-Stmt Proved Stmt (λ stmt. stmt.0) y)
    form Stmt-F.Empty = level Stmt-F.Empty no_change_inside
    form (Stmt-F.Block body) =
        level (Stmt-F.Block (bare body)) (order_inside (map (process_of m wires) (bare body)) (body_inside body))
    form (Stmt-F.If test first other) = if_inside test first other
    form (Stmt-F.Set at left right) = level (Stmt-F.Set at left right) (set_inside left right)

    pub statement_inside : (stmt : Stmt) → StatementInside stmt
    statement_inside = ind-Stmt StatementInside (λ x y is. subst FormInside is (form y))

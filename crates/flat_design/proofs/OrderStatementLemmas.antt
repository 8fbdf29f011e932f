-- The nodes of statements read nodes before them, and so do the edges that registers have then.
use Rattle.std.specs.Prelude.{◌≡◌, ℕ, zero, suc, ◌+◌, ◌<◌, ◌≤◌, List, [], ◌∷◌, ◌++◌, Option, None, Some, length, map, slice_index_or}
use Rattle.std.proofs.Common.{arith, length-append, sym, subst}
use Rattle.flat_net.specs.declared.edge.Edge.{Edge}
use Rattle.flat_net.specs.Edges.{zero_edge}
use Rattle.lowering.specs.Expressions.{Wires, assigned, condition, only}
use Rattle.lowering.specs.Gates.{chosen_bits}
use Rattle.lowering.specs.Lowered.{Lowered, after}
use Rattle.processes.specs.Statements.{Change, Changed, Process, Registers, branched, in_order, no_change, nothing, ordered, process_at, process_of, replaced, set, then_change}
use Rattle.vlog_tree.specs.declared.design.Module.{Module}
use Rattle.vlog_tree.specs.declared.expr.Expr.{Expr}
use Rattle.vlog_tree.specs.declared.left.Left.{Left}
use Rattle.vlog_tree.specs.declared.stmt.Stmt.{Stmt, map-Stmt, roll-Stmt}
use Rattle.vlog_tree.specs.declared.stmt.Stmt.TheFolds.{fold-roll-Stmt, ind-Stmt}
use Rattle.vlog_tree.specs.declared.stmt.Stmt.TheOpen.{Stmt-F}
use Rattle.vlog_tree.specs.Meaning.Lefts.{Bit, left_bits, number_in}
use Rattle.vlog_tree.specs.Meaning.Uses.{Text}
use Rattle.flat_design.specs.Order.{AreOrdered}
use Rattle.flat_design.proofs.OrderLemmas.{AllBelow, ordered_append}
use Rattle.flat_design.proofs.OrderExprLemmas.{assigned_ordered, chosen_joint, condition_ordered, only_below}

-- Each register has an edge below a number.
abbrev pub RegistersBelow : ℕ → Registers → Type 0
RegistersBelow number registers = (bit : Bit) → (registers bit).node < number

-- nodes that read nodes before them, and registers with edges of these and of what stands before
pub record IsChanged (next : ℕ) (done : Changed) : Type 0 where
  pub nodes : AreOrdered next done.nodes
  pub registers : RegistersBelow (next + length done.nodes) done.registers

pub registers_more : (number more : ℕ) (registers : Registers) → number ≤ more → RegistersBelow number registers → RegistersBelow more registers
registers_more number more registers fits below bit = omega (arith, fits, below bit)

at_below : (number : ℕ) (edges : List Edge) (place : ℕ) → 0 < number → AllBelow number edges → (slice_index_or edges place zero_edge).node < number
at_below number [] place some below = some
at_below number (edge ∷ edges) zero some (first, below) = first
at_below number (edge ∷ edges) (suc place) some (first, below) = at_below number edges place some below

replaced_below : (number : ℕ) (bits : List Bit) (edges : List Edge) (before : Registers) → 0 < number → AllBelow number edges
    → RegistersBelow number before → RegistersBelow number (replaced bits edges before)
replaced_below number bits edges before some below kept bit = by (number_in bits bit)
  where
    by : (found : Option ℕ) → (elim found as (λ number. Edge) [ Some place ↦ slice_index_or edges place zero_edge | None ↦ before bit ]).node < number
    by None = kept bit
    by (Some place) = at_below number edges place some below

mapped_below : (number : ℕ) (registers : Registers) (bits : List Bit) → RegistersBelow number registers → AllBelow number (map registers bits)
mapped_below number registers [] below = tt
mapped_below number registers (bit ∷ bits) below = (below bit, mapped_below number registers bits below)

module _ (m : Module) (wires : Wires) (first : ℕ) (some : 0 < first) (named : (name : Text) (bit : ℕ) → (wires name bit).node < first) where
  -- wherever it begins behind the nodes of bits
  abbrev pub Keeps : Change → Type 0
  Keeps change = (before : Registers) (next : ℕ) → first ≤ next → RegistersBelow next before → IsChanged next (change before next)

  no_keeps : Keeps no_change
  no_keeps before next fits below = record { nodes = tt; registers = registers_more next (next + 0) before (omega arith) below }

  then_keeps : (one two : Change) → Keeps one → Keeps two → Keeps (then_change one two)
  then_keeps one two h k before next fits below =
      let done : Changed = one before next in
      let number : ℕ = next + length done.nodes in
      let more : Changed = two done.registers number in
      let here = h before next fits below in
      let rest = k done.registers number (omega (arith, fits)) here.registers in
      record {
        nodes = ordered_append next done.nodes more.nodes here.nodes rest.nodes;
        registers = registers_more (number + length more.nodes) (next + length (done.nodes ++ more.nodes)) more.registers
            (omega (arith, length-append done.nodes more.nodes)) rest.registers;
      }

  set_keeps : (left : Left) (right : Expr) → Keeps (set m wires left right)
  set_keeps left right before next fits below =
      let done : Lowered = assigned m wires (length (left_bits m left)) right next in
      let is = assigned_ordered m wires first some named (length (left_bits m left)) right next fits in
      record {
        nodes = is.nodes;
        registers = replaced_below (after next done) (left_bits m left) done.edges before (omega (arith, some, fits)) is.edges
            (registers_more next (after next done) before (omega arith) below);
      }

  branch_keeps : (test : Expr) (one two : Process) → Keeps one.change → Keeps two.change
      → Keeps (λ before next. branched m (condition m wires test next) one two before next)
  branch_keeps test one two h k before next fits below =
      let asked : Lowered = condition m wires test next in
      let choice = condition_ordered m wires first some named test next fits in
      let second : ℕ = next + length asked.nodes in
      let chosen = only_below second asked.edges (omega (arith, some, fits)) choice.edges in
      let yes' : Changed = one.change before second in
      let here = h before second (omega (arith, fits)) (registers_more next second before (omega arith) below) in
      let third : ℕ = next + length asked.nodes + length yes'.nodes in
      let no' : Changed = two.change before third in
      let there = k before third (omega (arith, fits)) (registers_more next third before (omega arith) below) in
      let fourth : ℕ = next + length asked.nodes + length yes'.nodes + length no'.nodes in
      let bits : List Bit = ordered m (one.assigns ++ two.assigns) in
      let end : Lowered = chosen_bits (only asked.edges) (map yes'.registers bits) (map no'.registers bits) fourth in
      let last = chosen_joint (only asked.edges) second chosen fourth (omega arith) (map yes'.registers bits) (map no'.registers bits)
      (mapped_below fourth yes'.registers bits (registers_more third fourth yes'.registers (omega arith) here.registers))
      (mapped_below fourth no'.registers bits there.registers) in
      let front = ordered_append next asked.nodes yes'.nodes choice.nodes here.nodes in
      let two_long : next + length (asked.nodes ++ yes'.nodes) ≡ third = omega (arith, length-append asked.nodes yes'.nodes) in
      let three = ordered_append next (asked.nodes ++ yes'.nodes) no'.nodes front
      (subst (λ number. AreOrdered number no'.nodes) (sym two_long) there.nodes) in
      let three_long : next + length ((asked.nodes ++ yes'.nodes) ++ no'.nodes) ≡ fourth =
      omega (arith, two_long, length-append (asked.nodes ++ yes'.nodes) no'.nodes) in
      let all = ordered_append next ((asked.nodes ++ yes'.nodes) ++ no'.nodes) end.nodes three
      (subst (λ number. AreOrdered number end.nodes) (sym three_long) last.nodes) in
      let total : next + length (((asked.nodes ++ yes'.nodes) ++ no'.nodes) ++ end.nodes) ≡ after fourth end =
      omega (arith, three_long, length-append ((asked.nodes ++ yes'.nodes) ++ no'.nodes) end.nodes) in
      record {
        nodes = all;
        registers = λ bit. subst (λ number. (replaced bits end.edges before bit).node < number) (sym total)
            (replaced_below (after fourth end) bits end.edges before (omega (arith, some, fits)) last.edges
            (registers_more next (after fourth end) before (omega arith) below) bit);
      }

  -- ---- statements

  abbrev InOrder : Stmt → Type 0
  InOrder stmt = Keeps (process_of m wires stmt).change

  level : (x : Stmt-F Stmt) → Keeps (process_at m wires (map-Stmt Stmt Process (process_of m wires) x)).change → InOrder (roll-Stmt x)
  level x here = subst (λ (one : Process). Keeps one.change) (sym (fold-roll-Stmt Process (process_at m wires) x)) here

  abbrev Proved : Type 0
  Proved = (stmt : Stmt) × InOrder stmt

  abbrev bare : List Proved → List Stmt
  bare body = map (λ stmt. stmt.0) body

  row_keeps : (body : List Proved) → Keeps (in_order (map (process_of m wires) (bare body)))
  row_keeps [] = no_keeps
  row_keeps (stmt ∷ body) = then_keeps (process_of m wires stmt.0).change (in_order (map (process_of m wires) (bare body))) stmt.1 (row_keeps body)

  if_form : (test : Expr) (one : Proved) (other : Option Proved) → InOrder (roll-Stmt (map-Stmt Proved Stmt (λ stmt. stmt.0) (Stmt-F.If test one other)))
  if_form test one None = level (Stmt-F.If test one.0 None) (branch_keeps test (process_of m wires one.0) nothing one.1 no_keeps)
  if_form test one (Some other) =
      level (Stmt-F.If test one.0 (Some other.0)) (branch_keeps test (process_of m wires one.0) (process_of m wires other.0) one.1 other.1)

  form : (y : Stmt-F Proved) → InOrder (roll-Stmt (map-Stmt Proved Stmt (λ stmt. stmt.0) y))
  form Stmt-F.Empty = level Stmt-F.Empty no_keeps
  form (Stmt-F.Block body) = level (Stmt-F.Block (bare body)) (row_keeps body)
  form (Stmt-F.If test one other) = if_form test one other
  form (Stmt-F.Set at left right) = level (Stmt-F.Set at left right) (set_keeps left right)

  pub statement_keeps : (stmt : Stmt) → Keeps (process_of m wires stmt).change
  statement_keeps = ind-Stmt InOrder (λ x y is. subst (λ x. InOrder (roll-Stmt x)) is (form y))

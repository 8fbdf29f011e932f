-- What statements give to registers: an edge has no value but that of the bit in the next state.
use Rattle.std.specs.Prelude.{◌≡◌, ℕ, List, Bool, true, ◌&&◌, Option, Some, None, filter_map, fold, is_some, map, unwrap_or}
use Rattle.std.specs.List.{list_all, list_any}
use Rattle.flat_net.specs.Values.{Reading, edge_value}
use Rattle.vlog_tree.specs.declared.design.Design.{Design}
use Rattle.vlog_tree.specs.declared.design.Module.{Module}
use Rattle.vlog_tree.specs.declared.item.Item.{Item}
use Rattle.vlog_tree.specs.declared.item.Item.TheVariants.{Always}
use Rattle.vlog_tree.specs.declared.stmt.Stmt.{Stmt}
use Rattle.vlog_tree.specs.declared.stmt.Stmt.TheFolds.{fold-Stmt}
use Rattle.vlog_tree.specs.declared.stmt.Stmt.TheOpen.{Stmt-F}
use Rattle.vlog_tree.specs.Meaning.Expressions.{Names, is_true}
use Rattle.vlog_tree.specs.Meaning.Lefts.{Bit, same_bit}
use Rattle.vlog_tree.specs.Meaning.Step.{after_item, after_statement}
use Rattle.lowering.specs.Expressions.{Wires}
use Rattle.lowering.specs.Meaning.{HasNames, HasZero, Holds, IsAbove}
use Rattle.numbering.specs.Bits.{register_bits}
use Rattle.design_laws.specs.Sound.{each, item_is_sound, stmt_is_sound}
use Rattle.processes.specs.Statements.{Change, Registers, in_order, process_of}

-- ---- conditions

abbrev pub conditions_known_at : Module → Names → Stmt-F Bool → Bool
conditions_known_at m names Stmt-F.Empty = true
conditions_known_at m names (Stmt-F.Block body) = each body
conditions_known_at m names (Stmt-F.If condition first other) =
    is_some (is_true m names condition) && (first && unwrap_or other true)
conditions_known_at m names (Stmt-F.Set at left right) = true

-- Each condition of a statement has a value.
abbrev pub conditions_known : Module → Names → Stmt → Bool
conditions_known m names = fold-Stmt Bool (conditions_known_at m names)

-- ---- items

-- the body of an `always`
abbrev pub body_of : Item → Option Stmt
body_of (Always at clock body) = Some body
body_of other = None

-- the bodies of the `always` items, in their order
abbrev pub bodies : List Item → List Stmt
bodies items = filter_map body_of items

-- ---- what is meant

-- a bit before, and the bit after
abbrev pub Step : Type 0
Step = Bit → Option Bool → Option Bool

abbrev pub after_all : Module → Names → List Stmt → Step
after_all m names body bit old = fold (λ value stmt. after_statement m names bit stmt value) old body

abbrev pub after_items : Module → Names → List Item → Step
after_items m names items bit old = fold (after_item m names bit) old items

-- Where the edge of a register's bit has only the bit's value before, its edge has only the bit's value afterwards.
abbrev pub MeansOf : Module → Names → Wires → Change → Step → Type 0
MeansOf m names wires change step =
    (state row : List Bool) (read : Reading) (before : Registers) (next : ℕ)
    → HasZero IsAbove read → HasNames IsAbove read m names wires
    → Holds IsAbove read state row next (change before next).nodes
    → (bit : Bit) (old : Option Bool) → list_any (same_bit bit) (register_bits m) ≡ true
    → IsAbove old (edge_value read (before bit))
    → IsAbove (step bit old) (edge_value read ((change before next).registers bit))

-- ---- the law

pub record StatementsMean : Type 0 where
  -- one statement
  pub statement : (m : Module) (names : Names) (wires : Wires) (stmt : Stmt) → stmt_is_sound m stmt ≡ true
      → conditions_known m names stmt ≡ true
      → MeansOf m names wires (process_of m wires stmt).change (λ bit. after_statement m names bit stmt)
  -- statements in their order
  pub statements : (m : Module) (names : Names) (wires : Wires) (body : List Stmt) → list_all (stmt_is_sound m) body ≡ true
      → list_all (conditions_known m names) body ≡ true
      → MeansOf m names wires (in_order (map (process_of m wires) body)) (after_all m names body)
  -- the items of a module, of which only the `always` items count
  pub items : (design : Design) (m : Module) (names : Names) (wires : Wires) (items : List Item)
      → list_all (item_is_sound design m) items ≡ true → list_all (conditions_known m names) (bodies items) ≡ true
      → MeansOf m names wires (in_order (map (process_of m wires) (bodies items))) (after_items m names items)

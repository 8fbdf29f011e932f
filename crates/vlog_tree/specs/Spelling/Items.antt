-- The items of a module (IEEE 1364-2005, clauses 4, 6, 7, 9 and 12).
use Rattle.std.specs.Prelude.{◌≡◌, ℕ, Bool, List, [], ◌∷◌, ◌++◌, codes, Option, Some, None}
use Rattle.std.specs.List.{flat_map}
use Rattle.bm_base.specs.declared.range.Range.{Range}
use Rattle.vlog_tokens.specs.Toks.{Tok}
use Rattle.vlog_tree.specs.declared.expr.Expr.{Expr}
use Rattle.vlog_tree.specs.declared.expr.Expr.TheVariants as expr
use Rattle.vlog_tree.specs.declared.item.GateKind.{GateKind}
use Rattle.vlog_tree.specs.declared.item.Item.{Item}
use Rattle.vlog_tree.specs.declared.item.Item.TheVariants.{Assign, Always, Initial}
use Rattle.vlog_tree.specs.declared.item.NetKind.TheVariants.{Wire, Reg}
use Rattle.vlog_tree.specs.declared.left.Left.{Left}
use Rattle.vlog_tree.specs.declared.stmt.Stmt.{Stmt}
use Rattle.vlog_tree.specs.Spelling.Declarations.{Declared, IsPortShape, IsRegister, IsWire, Shape, register_items, wire_items}
use Rattle.vlog_tree.specs.Spelling.Exprs.{SpellsExpr}
use Rattle.vlog_tree.specs.Spelling.Gates.{IsInputGate, IsInstance, IsOutputGate, input_gate, output_gate}
use Rattle.vlog_tree.specs.Spelling.Lefts.{SpellsLeft}
use Rattle.vlog_tree.specs.Spelling.Numbers.{IsNumber}
use Rattle.vlog_tree.specs.Spelling.Parts.{Commas, Is, IsAnyDelay, IsName, IsRange, Optional, place_of, terminal}
use Rattle.vlog_tree.specs.Spelling.Stmts.{SpellsStmt}

-- left "=" expr
pub data IsAssign : List Tok → Item → Type 0 where
  assign : (front : List Tok) (equals : Tok) (back : List Tok) (target : Left) (right : Expr) → SpellsLeft front target
      → Is (codes "=") equals → SpellsExpr back right
      → IsAssign (front ++ equals ∷ back) (Assign (place_of front) target right)

-- An item of the source, which gives one item of the tree for each name, assignment, gate or instance in it, and one
-- more for the value of a name.
pub data IsItem : List Tok → List Item → Type 0 where
  -- dir kind? range? pname,+ ";"
  port : (ss ns : List Tok) (semi : Tok) (shape : Shape) (names : List Declared) → IsPortShape ss shape
      → Commas (IsRegister shape.kind) ns names → Is (codes ";") semi
      → IsItem (ss ++ (ns ++ semi ∷ [])) (flat_map (register_items shape) names)
  -- "wire" range? delay? wname,+ ";"
  wire : (word : Tok) (rs ds ns : List Tok) (semi : Tok) (range : Option Range) (names : List Declared)
      → Is (codes "wire") word → Optional IsRange rs range → IsAnyDelay ds → Commas IsWire ns names
      → Is (codes ";") semi
      → IsItem (word ∷ (rs ++ (ds ++ (ns ++ semi ∷ []))))
      (flat_map (wire_items (record { dir = None; kind = Wire; range = range })) names)
  -- "reg" range? pname,+ ";"
  reg : (word : Tok) (rs ns : List Tok) (semi : Tok) (range : Option Range) (names : List Declared)
      → Is (codes "reg") word → Optional IsRange rs range → Commas (IsRegister Reg) ns names → Is (codes ";") semi
      → IsItem (word ∷ (rs ++ (ns ++ semi ∷ [])))
      (flat_map (register_items (record { dir = None; kind = Reg; range = range })) names)
  -- "assign" delay? (left "=" expr),+ ";"
  assign : (word : Tok) (ds ts : List Tok) (semi : Tok) (assigns : List Item) → Is (codes "assign") word → IsAnyDelay ds
      → Commas IsAssign ts assigns → Is (codes ";") semi
      → IsItem (word ∷ (ds ++ (ts ++ semi ∷ []))) assigns
  -- ("and" | "nand" | "or" | "nor" | "xor" | "xnor") delay? agate,+ ";"
  input_gates : (word : Tok) (ds ts : List Tok) (semi : Tok) (kind : GateKind) (gates : List Item)
      → input_gate (terminal word) ≡ Some kind → IsAnyDelay ds → Commas (IsInputGate kind) ts gates
      → Is (codes ";") semi
      → IsItem (word ∷ (ds ++ (ts ++ semi ∷ []))) gates
  -- ("buf" | "not") delay? bgate,+ ";"
  output_gates : (word : Tok) (ds ts : List Tok) (semi : Tok) (kind : GateKind) (gates : List Item)
      → output_gate (terminal word) ≡ Some kind → IsAnyDelay ds → Commas (IsOutputGate kind) ts gates
      → Is (codes ";") semi
      → IsItem (word ∷ (ds ++ (ts ++ semi ∷ []))) gates
  -- name inst,+ ";"
  instances : (word : Tok) (ts : List Tok) (semi : Tok) (definition : List ℕ) (instances : List Item)
      → IsName word definition → Commas (IsInstance definition) ts instances → Is (codes ";") semi
      → IsItem (word ∷ (ts ++ semi ∷ [])) instances
  -- "always" "@" "(" "posedge" name ")" stmt
  always : (word event opening edge name closing : Tok) (ts : List Tok) (clock : List ℕ) (body : Stmt)
      → Is (codes "always") word → Is (codes "@") event → Is (codes "(") opening → Is (codes "posedge") edge
      → IsName name clock → Is (codes ")") closing → SpellsStmt ts body
      → IsItem (word ∷ event ∷ opening ∷ edge ∷ name ∷ closing ∷ ts) (Always word.at clock body ∷ [])
  -- "initial" name "=" number ";"
  initial : (word name equals : Tok) (ts : List Tok) (semi : Tok) (text : List ℕ) (bits : List Bool)
      → Is (codes "initial") word → IsName name text → Is (codes "=") equals → IsNumber ts bits → Is (codes ";") semi
      → IsItem (word ∷ name ∷ equals ∷ (ts ++ semi ∷ [])) (Initial word.at text (expr.Number (place_of ts) bits) ∷ [])

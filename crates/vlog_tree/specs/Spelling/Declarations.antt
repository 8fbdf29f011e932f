-- Declarations of nets, registers and ports (IEEE 1364-2005, clauses 4.2 and 12.3).
use Rattle.std.specs.Prelude.{◌≡◌, ℕ, Bool, List, [], ◌∷◌, ◌++◌, codes, Option, Some, None, if◌then◌else◌}
use Rattle.std.specs.Str.{bytes_eq}
use Rattle.bm_base.specs.declared.range.Range.{Range}
use Rattle.vlog_tokens.specs.Toks.{Tok}
use Rattle.vlog_tree.specs.declared.expr.Expr.{Expr}
use Rattle.vlog_tree.specs.declared.expr.Expr.TheVariants as expr
use Rattle.vlog_tree.specs.declared.item.Dir.{Dir}
use Rattle.vlog_tree.specs.declared.item.Dir.TheVariants.{Input, Output}
use Rattle.vlog_tree.specs.declared.item.Item.{Item}
use Rattle.vlog_tree.specs.declared.item.Item.TheVariants.{Decl, Assign, Initial}
use Rattle.vlog_tree.specs.declared.item.NetKind.{NetKind}
use Rattle.vlog_tree.specs.declared.item.NetKind.TheVariants.{Plain, Wire, Reg}
use Rattle.vlog_tree.specs.declared.left.Left.TheVariants as left
use Rattle.vlog_tree.specs.Spelling.Exprs.{SpellsExpr}
use Rattle.vlog_tree.specs.Spelling.Numbers.{IsNumber}
use Rattle.vlog_tree.specs.Spelling.Parts.{Is, IsName, IsRange, Optional, place_of, terminal}

-- dir = "input" | "output"
abbrev pub direction : List ℕ → Option Dir
direction text =
    if bytes_eq text (codes "input") then Some Input else (if bytes_eq text (codes "output") then Some Output else None)

-- kind?, where kind = "wire" | "reg"
pub data IsKind : List Tok → NetKind → Type 0 where
  plain : IsKind [] Plain
  wire : (word : Tok) → Is (codes "wire") word → IsKind (word ∷ []) Wire
  reg : (word : Tok) → Is (codes "reg") word → IsKind (word ∷ []) Reg

-- what is said of all names of a declaration
pub record Shape : Type 0 where
  pub dir : Option Dir
  pub kind : NetKind
  pub range : Option Range

-- dir kind? range?
pub data IsPortShape : List Tok → Shape → Type 0 where
  port_shape : (word : Tok) (ks rs : List Tok) (dir : Dir) (kind : NetKind) (range : Option Range)
      → direction (terminal word) ≡ Some dir → IsKind ks kind → Optional IsRange rs range
      → IsPortShape (word ∷ (ks ++ rs)) (record { dir = Some dir; kind = kind; range = range })

-- a name that is declared, its place, and its value if it has one
pub record Declared : Type 0 where
  pub at : ℕ
  pub name : List ℕ
  pub value : Option Expr

-- pname = name | name "=" number, the second after `reg` only
pub data IsRegister : NetKind → List Tok → Declared → Type 0 where
  plain : (kind : NetKind) (word : Tok) (name : List ℕ) → IsName word name
      → IsRegister kind (word ∷ []) (record { at = word.at; name = name; value = None })
  initial : (word equals : Tok) (ts : List Tok) (name : List ℕ) (bits : List Bool) → IsName word name
      → Is (codes "=") equals → IsNumber ts bits
      → IsRegister Reg (word ∷ equals ∷ ts)
      (record { at = word.at; name = name; value = Some (expr.Number (place_of ts) bits) })

-- wname = name | name "=" expr
pub data IsWire : List Tok → Declared → Type 0 where
  plain : (word : Tok) (name : List ℕ) → IsName word name
      → IsWire (word ∷ []) (record { at = word.at; name = name; value = None })
  assigned : (word equals : Tok) (ts : List Tok) (name : List ℕ) (right : Expr) → IsName word name
      → Is (codes "=") equals → SpellsExpr ts right
      → IsWire (word ∷ equals ∷ ts) (record { at = word.at; name = name; value = Some right })

-- the declaration of a name
abbrev pub declaration : Shape → Declared → Item
declaration shape declared = Decl declared.at shape.dir shape.kind shape.range declared.name

abbrev pub initial_of : ℕ → List ℕ → Option Expr → List Item
initial_of at name None = []
initial_of at name (Some value) = Initial at name value ∷ []

abbrev pub assign_of : ℕ → List ℕ → Option Expr → List Item
assign_of at name None = []
assign_of at name (Some value) = Assign at (left.Whole at name) value ∷ []

-- a name of a register or port gives its declaration and, right after it, an `Initial` for its value
abbrev pub register_items : Shape → Declared → List Item
register_items shape declared = declaration shape declared ∷ initial_of declared.at declared.name declared.value

-- a name of a wire gives its declaration and, right after it, an `Assign` for its value
abbrev pub wire_items : Shape → Declared → List Item
wire_items shape declared = declaration shape declared ∷ assign_of declared.at declared.name declared.value

-- Declarations of nets, registers and ports, as they are read.
use Rattle.std.specs.Prelude.{ℕ, Bool, List, codes, Option, Some, None, if◌then◌else◌, ◌||◌}
use Rattle.bm_base.specs.declared.range.Range.{Range}
use Rattle.vlog_tokens.specs.Toks.{Tok}
use Rattle.vlog_tree.specs.declared.expr.Expr.{Expr}
use Rattle.vlog_tree.specs.declared.expr.Expr.TheVariants as expr
use Rattle.vlog_tree.specs.declared.item.Dir.{Dir}
use Rattle.vlog_tree.specs.declared.item.Dir.TheVariants.{Input, Output}
use Rattle.vlog_tree.specs.declared.item.Item.{Item}
use Rattle.vlog_tree.specs.declared.item.NetKind.{NetKind}
use Rattle.vlog_tree.specs.declared.item.NetKind.TheVariants.{Plain, Wire, Reg}
use Rattle.vlog_tree.specs.Spelling.Declarations as spelling
use Rattle.vlog_parse.specs.Delays.{any_delay}
use Rattle.vlog_parse.specs.Exprs as exprs
use Rattle.vlog_parse.specs.Gathers.{gathered}
use Rattle.vlog_parse.specs.Numbers.{number}
use Rattle.vlog_parse.specs.Reads.{◌>>=◌, ◌>>◌, Parser, expect, here, pure, refuse, sees}
use Rattle.vlog_parse.specs.Selects as selects
use Rattle.vlog_parse.specs.Terminals as terminals

-- the one where the next token is this reserved word or mark, and else the other
abbrev pub at_word : {A : Type 0} → List ℕ → Parser A → Parser A → Parser A
at_word text one other = λ ts. if sees text ts then one ts else other ts

-- ---- what is said of all names

-- dir
unfoldable pub direction : Parser Dir
direction =
    at_word (codes "input") (expect (codes "input") >> pure Input)
    (at_word (codes "output") (expect (codes "output") >> pure Output) refuse)

-- whether a direction is next
abbrev pub is_direction : List Tok → Bool
is_direction ts = sees (codes "input") ts || sees (codes "output") ts

-- kind?
unfoldable pub net_kind : Parser NetKind
net_kind =
    at_word (codes "wire") (expect (codes "wire") >> pure Wire)
    (at_word (codes "reg") (expect (codes "reg") >> pure Reg) (pure Plain))

-- range?
unfoldable pub any_range : Parser (Option Range)
any_range = at_word (codes "[") (selects.range >>= (λ range. pure (Some range))) (pure None)

-- dir kind? range?
unfoldable pub port_shape : Parser spelling.Shape
port_shape = do
  dir ← direction
  kind ← net_kind
  range ← any_range
  pure (record { dir = Some dir; kind = kind; range = range })

-- ---- the names

-- "=" number
unfoldable pub assigned_number : Parser (Option Expr)
assigned_number = do
  expect (codes "=")
  at ← here
  bits ← number
  pure (Some (expr.Number at bits))

-- what may follow the name of a register or port
abbrev pub register_value : NetKind → Parser (Option Expr)
register_value Reg = at_word (codes "=") assigned_number (pure None)
register_value Plain = pure None
register_value Wire = pure None

-- pname
unfoldable pub register : NetKind → Parser spelling.Declared
register kind = do
  at ← here
  name ← terminals.name
  value ← register_value kind
  pure (record { at = at; name = name; value = value })

-- "=" expr
unfoldable pub assigned_expr : ℕ → Parser (Option Expr)
assigned_expr depth = do
  expect (codes "=")
  right ← exprs.expr depth
  pure (Some right)

-- what may follow the name of a wire
abbrev pub wire_value : ℕ → Parser (Option Expr)
wire_value depth = at_word (codes "=") (assigned_expr depth) (pure None)

-- wname
unfoldable pub wire : ℕ → Parser spelling.Declared
wire depth = do
  at ← here
  name ← terminals.name
  value ← wire_value depth
  pure (record { at = at; name = name; value = value })

-- ---- declarations

-- pname,+ ";"
unfoldable pub registers : spelling.Shape → Parser (List Item)
registers shape = do
  items ← gathered (spelling.register_items shape) (register shape.kind)
  expect (codes ";")
  pure items

-- wname,+ ";"
unfoldable pub wires : ℕ → spelling.Shape → Parser (List Item)
wires depth shape = do
  items ← gathered (spelling.wire_items shape) (wire depth)
  expect (codes ";")
  pure items

-- dir kind? range? pname,+ ";"
unfoldable pub port_items : Parser (List Item)
port_items = do
  shape ← port_shape
  registers shape

-- "wire" range? delay? wname,+ ";"
unfoldable pub wire_items : ℕ → Parser (List Item)
wire_items depth = do
  expect (codes "wire")
  range ← any_range
  any_delay
  wires depth (record { dir = None; kind = Wire; range = range })

-- "reg" range? pname,+ ";"
unfoldable pub reg_items : Parser (List Item)
reg_items = do
  expect (codes "reg")
  range ← any_range
  registers (record { dir = None; kind = Reg; range = range })

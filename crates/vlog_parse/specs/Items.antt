-- How the items of a module are read.
use Rattle.std.specs.Prelude.{ℕ, List, [], ◌∷◌, ◌||◌, codes, Option, Some, None, if◌then◌else◌}
use Rattle.std.specs.Str.{bytes_eq}
use Rattle.vlog_tree.specs.declared.expr.Expr.TheVariants as expr
use Rattle.vlog_tree.specs.declared.item.GateKind.{GateKind}
use Rattle.vlog_tree.specs.declared.item.Item.{Item}
use Rattle.vlog_tree.specs.declared.item.Item.TheVariants.{Assign, Always, Initial}
use Rattle.vlog_tree.specs.Spelling.Gates as tables
use Rattle.vlog_parse.specs.Declarations.{port_items, reg_items, wire_items}
use Rattle.vlog_parse.specs.Delays.{any_delay}
use Rattle.vlog_parse.specs.Exprs as exprs
use Rattle.vlog_parse.specs.Gates.{input_gate, instance, output_gate}
use Rattle.vlog_parse.specs.Lefts.{left}
use Rattle.vlog_parse.specs.Looks.{any_token}
use Rattle.vlog_parse.specs.Numbers.{number}
use Rattle.vlog_parse.specs.Reads.{Parser, ◌>>=◌, ◌>>◌, pure, here, expect, next_terminal, separated}
use Rattle.vlog_parse.specs.Stmts.{stmt}
use Rattle.vlog_parse.specs.Terminals.{name}

-- left "=" expr
unfoldable pub assign : ℕ → Parser Item
assign depth = do
  at ← here
  target ← left depth
  expect (codes "=")
  right ← exprs.expr depth
  pure (Assign at target right)

-- "assign" delay? (left "=" expr),+ ";"
unfoldable pub assigns : ℕ → Parser (List Item)
assigns depth = do
  expect (codes "assign")
  any_delay
  found ← separated (assign depth)
  expect (codes ";")
  pure found

-- the word of a gate and then delay? agate,+ ";"
unfoldable pub input_gates : ℕ → GateKind → Parser (List Item)
input_gates depth kind = do
  any_token
  any_delay
  found ← separated (input_gate depth kind)
  expect (codes ";")
  pure found

-- the word of a gate and then delay? bgate,+ ";"
unfoldable pub output_gates : ℕ → GateKind → Parser (List Item)
output_gates depth kind = do
  any_token
  any_delay
  found ← separated (output_gate depth kind)
  expect (codes ";")
  pure found

-- name inst,+ ";"
unfoldable pub instances : ℕ → Parser (List Item)
instances depth = do
  definition ← name
  found ← separated (instance depth definition)
  expect (codes ";")
  pure found

-- "always" "@" "(" "posedge" name ")" stmt
unfoldable pub always : ℕ → Parser (List Item)
always depth = do
  at ← here
  expect (codes "always")
  expect (codes "@")
  expect (codes "(")
  expect (codes "posedge")
  clock ← name
  expect (codes ")")
  body ← stmt depth
  pure (Always at clock body ∷ [])

-- "initial" name "=" number ";"
unfoldable pub initial : Parser (List Item)
initial = do
  at ← here
  expect (codes "initial")
  text ← name
  expect (codes "=")
  place ← here
  bits ← number
  expect (codes ";")
  pure (Initial at text (expr.Number place bits) ∷ [])

abbrev pub gates_by : ℕ → Option GateKind → Option GateKind → Parser (List Item)
gates_by depth (Some kind) other = input_gates depth kind
gates_by depth None (Some kind) = output_gates depth kind
gates_by depth None None = instances depth

-- gates, by the word that they begin with, or else instances
unfoldable pub gates_or_instances : ℕ → List ℕ → Parser (List Item)
gates_or_instances depth text = gates_by depth (tables.input_gate text) (tables.output_gate text)

-- an assignment, a process, gates or instances, by the word that they begin with
unfoldable pub other_items : ℕ → List ℕ → Parser (List Item)
other_items depth text =
    if bytes_eq text (codes "assign") then assigns depth
    else (if bytes_eq text (codes "always") then always depth
    else (if bytes_eq text (codes "initial") then initial
    else gates_or_instances depth text))

-- any item, by the word that it begins with
unfoldable pub items_by : ℕ → List ℕ → Parser (List Item)
items_by depth text =
    if bytes_eq text (codes "input") || bytes_eq text (codes "output") then port_items
    else (if bytes_eq text (codes "wire") then wire_items depth
    else (if bytes_eq text (codes "reg") then reg_items
    else other_items depth text))

unfoldable pub item : ℕ → Parser (List Item)
item depth = λ ts. items_by depth (next_terminal ts) ts

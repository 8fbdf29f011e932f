-- Headers, modules and designs, as they are read.
use Rattle.std.specs.Prelude.{ℕ, not, List, [], ◌∷◌, ◌++◌, codes, if◌then◌else◌}
use Rattle.vlog_tree.specs.declared.design.Design.{Design}
use Rattle.vlog_tree.specs.declared.design.Module.{Module}
use Rattle.vlog_tree.specs.Spelling.Declarations as spelling
use Rattle.vlog_parse.specs.Declarations.{at_word, is_direction, port_shape, register}
use Rattle.vlog_parse.specs.Gathers.{gathered_until}
use Rattle.vlog_parse.specs.Items as items
use Rattle.vlog_parse.specs.Reads.{◌>>=◌, ◌>>◌, Parser, expect, here, is_end, loop, one_more, pure, sees, separated}
use Rattle.vlog_parse.specs.Terminals as terminals
use Rattle.vlog_parse.specs.declared.header.Header.{Header}
use Rattle.vlog_parse.specs.declared.port.Ports.{Ports}

-- ---- headers

-- one port more, of the shape that the last one has
unfoldable pub add_port : Ports → Parser Ports
add_port ports = do
  declared ← register ports.shape.kind
  pure (record {
    shape = ports.shape;
    names = ports.names ++ declared.name ∷ [];
    items = ports.items ++ spelling.register_items ports.shape declared;
  })

-- the shape of the next port: its own if a direction stands there, and else that of the one before
abbrev pub next_shape : spelling.Shape → Parser spelling.Shape
next_shape shape = λ ts. if is_direction ts then port_shape ts else pure shape ts

-- a comma and one port more
unfoldable pub add_port_after_comma : Ports → Parser Ports
add_port_after_comma ports = do
  expect (codes ",")
  shape ← next_shape ports.shape
  add_port (record { shape = shape; names = ports.names; items = ports.items })

-- aport,+
unfoldable pub port_list : Parser Ports
port_list = do
  shape ← port_shape
  first ← add_port (record { shape = shape; names = []; items = [] })
  loop (sees (codes ",")) add_port_after_comma first

-- aport,+ as a header
unfoldable pub declared_ports : Parser Header
declared_ports = do
  ports ← port_list
  pure (record { names = ports.names; items = ports.items })

-- name,+ as a header
unfoldable pub named_ports : Parser Header
named_ports = do
  names ← separated terminals.name
  pure (record { names = names; items = [] })

-- no ports
abbrev pub no_ports : Header
no_ports = record { names = []; items = [] }

-- what stands between the parentheses
abbrev pub inner_header : Parser Header
inner_header = at_word (codes ")") (pure no_ports) (λ ts. if is_direction ts then declared_ports ts else named_ports ts)

-- "(" .. ")"
unfoldable pub in_parentheses : Parser Header
in_parentheses = do
  expect (codes "(")
  header ← inner_header
  expect (codes ")")
  pure header

-- header?
unfoldable pub any_header : Parser Header
any_header = at_word (codes "(") in_parentheses (pure no_ports)

-- ---- modules

-- "module" name header? ";" item* "endmodule"
unfoldable pub module_rule : ℕ → Parser Module
module_rule depth = do
  at ← here
  expect (codes "module")
  name ← terminals.name
  ports ← any_header
  expect (codes ";")
  items ← gathered_until (codes "endmodule") (λ group. group) (items.item depth) ports.items
  expect (codes "endmodule")
  pure (record { at = at; name = name; ports = ports.names; items = items })

-- modules up to the end
unfoldable pub modules : ℕ → Parser (List Module)
modules depth = loop (λ ts. not (is_end ts)) (one_more (module_rule depth)) []

-- a design, up to the end
unfoldable pub design : ℕ → Parser Design
design depth = do
  found ← modules depth
  pure (record { modules = found })

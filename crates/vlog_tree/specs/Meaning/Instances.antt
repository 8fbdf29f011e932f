-- The instances of modules (IEEE 1364-2005, clauses 12.1 and 12.3.9).
use Rattle.std.specs.Prelude.{ℕ, zero, suc, List, [], ◌∷◌, ◌++◌, Bool, Option, Some, None, bytes_eq, filter_map, find, flat_map, option_and_then, option_map, slice_get}
use Rattle.std.specs.Cmp.Lexicographic.{pointwise}
use Rattle.std.specs.List.{enumerate_from}
use Rattle.std.specs.Option.{option_or, option_to_list}
use Rattle.vlog_tree.specs.declared.design.Design.{Design}
use Rattle.vlog_tree.specs.declared.design.Module.{Module}
use Rattle.vlog_tree.specs.declared.expr.Expr.{Expr}
use Rattle.vlog_tree.specs.declared.item.Item.{Item}
use Rattle.vlog_tree.specs.declared.item.Item.TheVariants as item
use Rattle.vlog_tree.specs.declared.item.Link.{Link}
use Rattle.vlog_tree.specs.Meaning.Setting.{Setting}
use Rattle.vlog_tree.specs.Meaning.Uses.{Text}

-- The names of instances from the top down. The top's own path is empty.
abbrev pub Path : Type 0
Path = List Text

abbrev pub same_path : Path → Path → Bool
same_path = pointwise bytes_eq

-- ---- one instance

-- an instance in the module where it stands: its name, the module that it is of, and its connections
pub record Child : Type 0 where
  pub name : Text
  pub definition : Module
  pub links : List Link

-- the first module of a name
abbrev pub module_named : Design → Text → Option Module
module_named design name = find (λ m. bytes_eq m.name name) design.modules

abbrev pub child_of : Design → Item → Option Child
child_of design (item.Instance at inner name links) =
    option_map (λ m. record { name = name; definition = m; links = links }) (module_named design inner)
child_of design other = None

-- the instances that stand in a module, in source order
abbrev pub children : Design → Module → List Child
children design m = filter_map (child_of design) m.items

-- ---- connections

-- The port of a connection: the one that it names, or that which stands in the header where it stands in the list.
abbrev pub port_of : Module → ℕ × Link → Option Text
port_of m link = option_or link.1.port (slice_get m.ports link.0)

-- an expression that is connected to a port
pub record Connection : Type 0 where
  pub port : Text
  pub expression : Expr

abbrev pub connection_of : Module → ℕ × Link → Option Connection
connection_of m link =
    option_and_then (λ port. option_map (λ e. record { port = port; expression = e }) link.1.expr) (port_of m link)

-- the connections that aren't blank
abbrev pub connections : Child → List Connection
connections child = filter_map (connection_of child.definition) (enumerate_from 0 child.links)

-- the expression that is connected to a port
abbrev pub connected : Child → Text → Option Expr
connected child port =
    option_map (λ connection. connection.expression)
    (find (λ connection. bytes_eq connection.port port) (connections child))

-- ---- all instances

-- a use of a module, and the path of names that leads to it from the top
pub record Instance : Type 0 where
  pub path : Path
  pub definition : Module

-- the top, where there is a module of its name
abbrev pub top_module : Setting → Option Module
top_module setting = module_named setting.design setting.top

-- the child as an instance, in an instance with this path
abbrev pub inside : Path → Child → Instance
inside path child = record { path = path ++ child.name ∷ []; definition = child.definition }

-- an instance and those inside of it, in pre-order, down to a depth
abbrev pub down_from : Design → ℕ → Instance → List Instance
down_from design zero instance = []
down_from design (suc depth) instance =
    instance ∷ flat_map (λ child. down_from design depth (inside instance.path child)) (children design instance.definition)

-- how deep instances stand, the top at depth 1
abbrev pub greatest_depth : ℕ
greatest_depth = 65

-- all instances in pre-order, the top first
abbrev pub instances : Setting → List Instance
instances setting =
    flat_map (λ m. down_from setting.design greatest_depth (record { path = []; definition = m }))
    (option_to_list (top_module setting))

-- the child of a name
abbrev pub child_named : Design → Module → Text → Option Child
child_named design m name = find (λ child. bytes_eq child.name name) (children design m)

-- the module that a path leads to from a module
abbrev pub module_from : Design → Module → Path → Option Module
module_from design m [] = Some m
module_from design m (name ∷ path) =
    option_and_then (λ child. module_from design child.definition path) (child_named design m name)

-- the module of the instance with a path
abbrev pub module_at : Setting → Path → Option Module
module_at setting path = option_and_then (λ m. module_from setting.design m path) (top_module setting)

-- The names of a module, and what is declared of them.
use Rattle.std.specs.Prelude.{List, [], ◌∷◌, ◌++◌, Bool, false, not, ◌&&◌, Option, Some, None, bytes_eq, filter, filter_map, flat_map, map}
use Rattle.std.specs.List.{list_any}
use Rattle.vlog_tree.specs.declared.design.Module.{Module}
use Rattle.vlog_tree.specs.declared.item.Dir.TheVariants.{Input, Output}
use Rattle.vlog_tree.specs.declared.item.Item.{Item}
use Rattle.vlog_tree.specs.declared.item.Item.TheVariants.{Decl}
use Rattle.vlog_tree.specs.declared.item.NetKind.TheVariants.{Reg}
use Rattle.vlog_tree.specs.Meaning.Uses.{Text, Use, implicit_uses, item_uses}

abbrev pub declared_name : Item → Option Text
declared_name (Decl at dir kind range name) = Some name
declared_name other = None

abbrev pub declares : Text → Item → Bool
declares name (Decl at dir kind range other) = bytes_eq other name
declares name other = false

abbrev pub is_declared : Module → Text → Bool
is_declared m name = list_any (declares name) m.items

abbrev pub is_named : Text → Use → Bool
is_named name one = bytes_eq one.name name

-- An implicit wire of the module: it isn't declared, and some use of it stands for a declaration.
abbrev pub is_implicit : Module → Text → Bool
is_implicit m name = not (is_declared m name) && list_any (is_named name) (flat_map implicit_uses m.items)

-- each name where it stands first
abbrev pub firsts : List Text → List Text
firsts [] = []
firsts (name ∷ names) = name ∷ filter (λ other. not (bytes_eq other name)) (firsts names)

-- the implicit wires, by their first use of any kind
abbrev pub implicit_names : Module → List Text
implicit_names m = filter (is_implicit m) (map (λ one. one.name) (flat_map item_uses m.items))

-- The names of a module in their order: the ports by the header, then the other declared ones by their first
-- declaration, then the implicit ones by their first use.
abbrev pub names : Module → List Text
names m = firsts (m.ports ++ filter_map declared_name m.items ++ implicit_names m)

-- Some declaration calls the name `reg`: each of its bits is a register (clause 4.2.2).
abbrev pub declares_register : Text → Item → Bool
declares_register name (Decl at dir Reg range other) = bytes_eq other name
declares_register name other = false

abbrev pub is_register : Module → Text → Bool
is_register m name = list_any (declares_register name) m.items

-- Some declaration calls it `input` (clause 12.3.3).
abbrev pub declares_input : Text → Item → Bool
declares_input name (Decl at (Some Input) kind range other) = bytes_eq other name
declares_input name other = false

abbrev pub is_input : Module → Text → Bool
is_input m name = list_any (declares_input name) m.items

-- Some declaration calls it `output`.
abbrev pub declares_output : Text → Item → Bool
declares_output name (Decl at (Some Output) kind range other) = bytes_eq other name
declares_output name other = false

abbrev pub is_output : Module → Text → Bool
is_output m name = list_any (declares_output name) m.items

abbrev pub registers : Module → List Text
registers m = filter (is_register m) (names m)

abbrev pub inputs : Module → List Text
inputs m = filter (is_input m) (names m)

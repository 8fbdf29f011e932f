-- What the items of a module assign, in groups in which no bit may stand twice.
use Rattle.std.specs.Prelude.{ℕ, List, [], ◌∷◌, Option, None, Some, All, cond, flat_map, map}
use Rattle.std.specs.List.{enumerate_from}
use Rattle.std.specs.Option.{option_to_list}
use Rattle.vlog_tree.specs.declared.design.Design.{Design}
use Rattle.vlog_tree.specs.declared.design.Module.{Module}
use Rattle.vlog_tree.specs.declared.expr.Expr.{Expr}
use Rattle.vlog_tree.specs.declared.item.Item.{Item}
use Rattle.vlog_tree.specs.declared.item.Item.TheVariants as item
use Rattle.vlog_tree.specs.declared.item.Link.{Link}
use Rattle.vlog_tree.specs.Meaning.Instances.{module_named, port_of}
use Rattle.vlog_tree.specs.Meaning.Names.{is_output}
use Rattle.vlog_tree.specs.Meaning.Uses.{Text}
use Rattle.driver_rules.specs.declared.select.Select.{Select}
use Rattle.driver_rules.specs.Doubles.{Assigned, left_assigned, stmt_lefts, target_assigned}
use Rattle.driver_rules.specs.Selects.{AreNumbered, shown}

abbrev pub joined : List (List Assigned) → List Assigned
joined lists = flat_map (λ list. list) lists

-- what a connection to a port of the inner module assigns
abbrev pub port_assigned : Module → Module → Option Text → Option Expr → List Assigned
port_assigned m inner None expression = []
port_assigned m inner (Some port) None = []
port_assigned m inner (Some port) (Some expression) = cond (is_output inner port) (target_assigned m expression) []

abbrev pub link_assigned : Module → Module → ℕ × Link → List Assigned
link_assigned m inner link = port_assigned m inner (port_of inner link) link.1.expr

abbrev pub links_assigned : Module → List Link → Module → List Assigned
links_assigned m links inner = flat_map (link_assigned m inner) (enumerate_from 0 links)

-- what an instance of the module with a name assigns
abbrev pub instance_assigned : Design → Module → Text → List Link → List Assigned
instance_assigned design m inner links = flat_map (links_assigned m links) (option_to_list (module_named design inner))

-- the groups of an item: each left side of an `always`, and all that another item assigns
abbrev pub groups_of : Design → Module → Item → List (List Assigned)
groups_of design m (item.Decl at dir kind range name) = []
groups_of design m (item.Assign at left right) = left_assigned m left ∷ []
groups_of design m (item.Gate at kind name outs ins) = joined (map (left_assigned m) outs) ∷ []
groups_of design m (item.Instance at inner name links) = instance_assigned design m inner links ∷ []
groups_of design m (item.Always at clock body) = stmt_lefts m body
groups_of design m (item.Initial at name value) = []

-- groups, as they are kept
abbrev pub groups_shown : List (List Select) → List (List Assigned)
groups_shown groups = map shown groups

abbrev pub GroupsAreNumbered : Module → List (List Select) → Type 0
GroupsAreNumbered m groups = All (AreNumbered m) groups

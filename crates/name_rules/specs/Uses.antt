-- The rules on the uses of names and on connections: E5 and E6.
use Rattle.std.specs.Prelude.{ℕ, List, [], ◌∷◌, ◌++◌, Bool, not, ◌&&◌, ◌||◌, Option, None, Some, bytes_eq, cond, flat_map, is_none, length, nat_lt}
use Rattle.std.specs.List.{list_any}
use Rattle.std.specs.Option.{option_to_list}
use Rattle.hierarchy.specs.Failures.{Failure, failure}
use Rattle.vlog_tree.specs.declared.design.Design.{Design}
use Rattle.vlog_tree.specs.declared.design.Module.{Module}
use Rattle.vlog_tree.specs.declared.item.Item.{Item}
use Rattle.vlog_tree.specs.declared.item.Item.TheVariants as item
use Rattle.vlog_tree.specs.declared.item.Link.{Link}
use Rattle.vlog_tree.specs.Meaning.Instances.{module_named}
use Rattle.vlog_tree.specs.Meaning.Ranges.{range_of}
use Rattle.vlog_tree.specs.Meaning.Uses.{Text, Use, item_uses}
use Rattle.name_rules.specs.Declarations.{is_among}

-- ---- E5: a name that is used is neither declared nor implicit

abbrev pub unknown_use : Module → Use → List Failure
unknown_use m one = cond (is_none (range_of m one.name)) (failure one.at m.name one.name ∷ []) []

abbrev pub unknown_names : Module → List Failure
unknown_names m = flat_map (λ i. flat_map (unknown_use m) (item_uses i)) m.items

-- ---- E6: connections

-- a connection that names this port
abbrev pub names_port : Text → Link → Bool
names_port port link = list_any (λ other. bytes_eq other port) (option_to_list link.port)

-- a connection that names no port of the module, or one that a connection before it names
abbrev pub bad_link : Module → Module → List Link → Link → Option Text → List Failure
bad_link m inner before link (Some port) =
    cond (not (is_among inner.ports port) || list_any (names_port port) before) (failure link.at m.name port ∷ []) []
bad_link m inner before link None = []

abbrev pub bad_links_after : Module → Module → List Link → List Link → List Failure
bad_links_after m inner before [] = []
bad_links_after m inner before (link ∷ links) =
    bad_link m inner before link link.port ++ bad_links_after m inner (before ++ link ∷ []) links

-- there are more ordered connections than ports
abbrev pub has_too_many : Module → List Link → Bool
has_too_many inner links = list_any (λ link. is_none link.port) links && nat_lt (length inner.ports) (length links)

abbrev pub bad_instance_of : Module → ℕ → Text → List Link → Module → List Failure
bad_instance_of m at name links inner =
    cond (has_too_many inner links) (failure at m.name name ∷ []) [] ++ bad_links_after m inner [] links

abbrev pub bad_connection : Design → Module → Item → List Failure
bad_connection design m (item.Instance at inner name links) =
    flat_map (bad_instance_of m at name links) (option_to_list (module_named design inner))
bad_connection design m other = []

abbrev pub bad_connections : Design → Module → List Failure
bad_connections design m = flat_map (bad_connection design m) m.items

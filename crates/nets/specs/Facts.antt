-- What is gathered of a module before its names are put in order.
use Rattle.std.specs.Prelude.{◌≡◌, List, None, flat_map}
use Rattle.std.specs.List.{list_any}
use Rattle.vlog_tree.specs.declared.design.Module.{Module}
use Rattle.vlog_tree.specs.Meaning.Names.{is_named}
use Rattle.vlog_tree.specs.Meaning.Uses.{Text, implicit_uses, item_uses}
use Rattle.nets.specs.declared.declarations.Declarations.{Declarations}
use Rattle.nets.specs.declared.places.Places.{Places}
use Rattle.nets.specs.declared.standing.Standing.{Standing}
use Rattle.nets.specs.declared.uses.Use.{Use}
use Rattle.nets.specs.Declaring.{after_items}
use Rattle.nets.specs.Kept.{net_in, place_in_map, stands}
use Rattle.nets.specs.Used.{first_place, shown}

pub record Tells (m : Module) (declarations : Declarations) (uses : List Use) (places : Places) (standing : Standing) : Type 0 where
  pub declared : (name : Text) → net_in declarations name ≡ after_items name None m.items
  pub used : shown uses ≡ flat_map item_uses m.items
  pub first_used : (name : Text) → place_in_map places name ≡ first_place name (flat_map item_uses m.items)
  pub stand : (name : Text) → stands standing name ≡ list_any (is_named name) (flat_map implicit_uses m.items)

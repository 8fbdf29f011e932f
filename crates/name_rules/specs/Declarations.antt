-- The rule on declarations and headers: E4.
use Rattle.std.specs.Prelude.{ℕ, ◌==◌, List, [], ◌∷◌, ◌++◌, Bool, true, false, not, ◌&&◌, ◌||◌, Option, None, Some, bytes_eq, cond, filter, flat_map, is_some, map, nat_lt, unwrap_or}
use Rattle.std.specs.List.{list_any}
use Rattle.bm_base.specs.declared.range.Range.{Range}
use Rattle.hierarchy.specs.Failures.{Failure, failure}
use Rattle.vlog_tree.specs.declared.design.Module.{Module}
use Rattle.vlog_tree.specs.declared.item.Dir.{Dir}
use Rattle.vlog_tree.specs.declared.item.Item.{Item}
use Rattle.vlog_tree.specs.declared.item.Item.TheVariants as item
use Rattle.vlog_tree.specs.Meaning.Names.{declares_input, declares_register, is_implicit}
use Rattle.vlog_tree.specs.Meaning.Ranges.{scalar, span}
use Rattle.vlog_tree.specs.Meaning.Uses.{Text, item_uses}
use Rattle.vlog_tree.specs.Meaning.Widths.{greatest}

abbrev pub is_among : List Text → Text → Bool
is_among names name = list_any (λ other. bytes_eq other name) names

-- ---- the header

-- a declaration of the name with a direction
abbrev pub directs : Text → Item → Bool
directs name (item.Decl at (Some dir) kind range other) = bytes_eq other name
directs name other = false

-- A name that the header lists twice, or that has no direction. It stands at the module.
abbrev pub bad_ports_after : Module → List Text → List Text → List Failure
bad_ports_after m before [] = []
bad_ports_after m before (name ∷ names) =
    cond (is_among before name || not (list_any (directs name) m.items)) (failure m.at m.name name ∷ []) []
    ++ bad_ports_after m (before ++ name ∷ []) names

abbrev pub bad_ports : Module → List Failure
bad_ports m = bad_ports_after m [] m.ports

-- ---- declarations

-- a declaration of the name without a direction
abbrev pub declares_plainly : Text → Item → Bool
declares_plainly name (item.Decl at None kind range other) = bytes_eq other name
declares_plainly name other = false

-- a declaration of the same kind, with a direction or without one
abbrev pub declares_again : Option Dir → Text → Item → Bool
declares_again (Some dir) name = directs name
declares_again None name = declares_plainly name

abbrev pub same_range : Range → Range → Bool
same_range range other = (range.left == other.left) && (range.right == other.right)

-- a declaration of the name with another range, where no range is `[0:0]`
abbrev pub differs_in_range : Range → Text → Item → Bool
differs_in_range range name (item.Decl at dir kind other declared) =
    bytes_eq declared name && not (same_range (unwrap_or other scalar) range)
differs_in_range range name other = false

-- The declaration, by those before it and itself, calls an input `reg`.
abbrev pub is_input_register : Text → List Item → Bool
is_input_register name upto = list_any (declares_input name) upto && list_any (declares_register name) upto

-- what is wrong with a declaration, by the items before it
abbrev pub is_bad_declaration : Module → List Item → Item → Option Dir → Option Range → Text → Bool
is_bad_declaration m before this dir range name =
    list_any (declares_again dir name) before
    || ((is_some dir && not (is_among m.ports name))
    || (list_any (differs_in_range (unwrap_or range scalar) name) before
    || (is_input_register name (before ++ this ∷ [])
    || nat_lt greatest (span (unwrap_or range scalar)))))

abbrev pub bad_declaration : Module → List Item → Item → List Failure
bad_declaration m before (item.Decl at dir kind range name) =
    cond (is_bad_declaration m before (item.Decl at dir kind range name) dir range name) (failure at m.name name ∷ []) []
bad_declaration m before other = []

abbrev pub bad_declarations_after : Module → List Item → List Item → List Failure
bad_declarations_after m before [] = []
bad_declarations_after m before (this ∷ items) =
    bad_declaration m before this ++ bad_declarations_after m (before ++ this ∷ []) items

abbrev pub bad_declarations : Module → List Failure
bad_declarations m = bad_declarations_after m [] m.items

-- ---- shared names

-- a name that something has: a net, or else an instance or a gate
pub record Thing : Type 0 where
  pub at : ℕ
  pub name : Text
  pub is_net : Bool

abbrev pub thing : ℕ → Text → Bool → Thing
thing at name is_net = record { at = at; name = name; is_net = is_net }

abbrev pub own_things : Item → List Thing
own_things (item.Decl at dir kind range name) = thing at name true ∷ []
own_things (item.Gate at kind (Some name) outs ins) = thing at name false ∷ []
own_things (item.Instance at inner name links) = thing at name false ∷ []
own_things other = []

-- An implicit wire stands where it is used.
abbrev pub implicit_things : Module → Item → List Thing
implicit_things m i =
    map (λ one. thing one.at one.name true) (filter (λ one. is_implicit m one.name) (item_uses i))

-- all that has a name in the module, in source order
abbrev pub things : Module → List Thing
things m = flat_map (λ i. own_things i ++ implicit_things m i) m.items

-- They have one name, and are not both the same net.
abbrev pub clash : Thing → Thing → Bool
clash this other = bytes_eq this.name other.name && not (this.is_net && other.is_net)

abbrev pub shared_after : Module → List Thing → List Thing → List Failure
shared_after m before [] = []
shared_after m before (this ∷ rest) =
    cond (list_any (clash this) before) (failure this.at m.name this.name ∷ []) []
    ++ shared_after m (before ++ this ∷ []) rest

abbrev pub shared_names : Module → List Failure
shared_names m = shared_after m [] (things m)

-- E4, in a module
abbrev pub bad_names : Module → List Failure
bad_names m = bad_ports m ++ bad_declarations m ++ shared_names m

-- Modules by their places in the source, and which of them have instances of which.
use Rattle.std.specs.Prelude.{ℕ, ◌+◌, ◌<◌, zero, suc, Bool, true, false, ◌||◌, ◌&&◌, ◌≡◌, List, [], ◌∷◌, ◌++◌, Option, None, Some, bytes_eq, cond, filter_map, flat_map, length, map, nat_eq, slice_index_or}
use Rattle.std.specs.List.{list_any, range_with_len}
use Rattle.std.specs.Option.{option_map}
use Rattle.vlog_tree.specs.declared.design.Module.{Module}
use Rattle.vlog_tree.specs.declared.item.Item.{Item}
use Rattle.vlog_tree.specs.declared.item.Item.TheVariants as item
use Rattle.vlog_tree.specs.Meaning.Uses.{Text}
use Rattle.hierarchy.specs.Failures.{Failure, failure}
use Rattle.hierarchy.specs.Rules.{greatest_path}

-- the place of the first module of a name
abbrev pub place_among : List Module → Text → Option ℕ
place_among [] name = None
place_among (m ∷ modules) name = cond (bytes_eq m.name name) (Some 0) (option_map suc (place_among modules name))

-- the name of the module at a place
abbrev pub name_at : List Module → ℕ → Text
name_at [] place = []
name_at (m ∷ modules) zero = m.name
name_at (m ∷ modules) (suc place) = name_at modules place

-- the place of the module of an instance, where this gives the places of names
abbrev pub inner_place : (Text → Option ℕ) → Item → Option ℕ
inner_place place_of (item.Instance at inner name links) = place_of inner
inner_place place_of other = None

-- the same of each instance among the items, without those that have no module
abbrev pub inner_places : (Text → Option ℕ) → List Item → List ℕ
inner_places place_of items = filter_map (inner_place place_of) items

abbrev pub Graph : Type 0
Graph = List (List ℕ)

abbrev pub graph_of : (Text → Option ℕ) → List Module → Graph
graph_of place_of modules = map (λ m. inner_places place_of m.items) modules

-- ---- graphs

-- the places to which edges lead
abbrev pub ahead : Graph → ℕ → List ℕ
ahead graph place = slice_index_or graph place []

-- whether a place is among these
abbrev pub has : List ℕ → ℕ → Bool
has places place = list_any (λ other. nat_eq other place) places

-- so many edges, one after the other, lead from a place to another
abbrev pub walks : Graph → ℕ → ℕ → ℕ → Bool
walks graph zero from to = nat_eq from to
walks graph (suc count) from to = list_any (λ next. walks graph count next to) (ahead graph from)

abbrev pub walks_to : Graph → ℕ → ℕ → Bool
walks_to graph from to = list_any (λ count. walks graph count from to) (range_with_len 0 (length graph + 1))

-- whether a place is marked
abbrev pub is_marked : List Bool → ℕ → Bool
is_marked marks place = slice_index_or marks place false

-- every edge leads to a place of the graph
abbrev pub IsClosed : Graph → Type 0
IsClosed graph = (from to : ℕ) → has (ahead graph from) to ≡ true → to < length graph

-- a graph and the place from which it is looked at
pub record Rooted : Type 0 where
  pub graph : Graph
  pub top : ℕ

-- whether a path of the greatest length leads from the top to the place
unfoldable pub ends_path : Graph → ℕ → ℕ → Bool
ends_path graph top place = walks graph greatest_path top place

-- No edge leads on from there.
abbrev pub IsShort : Graph → ℕ → Type 0
IsShort graph top = (from to : ℕ) → ends_path graph top from ≡ true → has (ahead graph from) to ≡ true → ⊥

-- ---- rule E3 in a graph

abbrev pub leads_back : Graph → ℕ → Option ℕ → Bool
leads_back graph outer None = true
leads_back graph outer (Some inner) = walks_to graph inner outer

-- whether an instance at a place, of the module at the other, is refused
abbrev pub is_bad_edge : Rooted → ℕ → Option ℕ → Bool
is_bad_edge rooted outer inner =
    ends_path rooted.graph rooted.top outer || leads_back rooted.graph outer inner

-- the same of an item of the module at the place
abbrev pub bad_item : Rooted → (Text → Option ℕ) → ℕ → Module → Item → List Failure
bad_item rooted place_of outer m (item.Instance at inner name links) =
    cond (is_bad_edge rooted outer (place_of inner)) (failure at m.name name ∷ []) []
bad_item rooted place_of outer m other = []

-- and of the items of modules from a place on, those that are reached
abbrev pub bad_items_from : Rooted → (Text → Option ℕ) → ℕ → List Module → List Failure
bad_items_from rooted place_of place [] = []
bad_items_from rooted place_of place (m ∷ modules) =
    cond (walks_to rooted.graph rooted.top place) (flat_map (bad_item rooted place_of place m) m.items) []
    ++ bad_items_from rooted place_of (place + 1) modules

-- whether an edge leads to the place from a marked one among the first so many
abbrev pub is_stepped_to : Graph → List Bool → ℕ → ℕ → Bool
is_stepped_to graph marks zero to = false
is_stepped_to graph marks (suc count) to =
    is_stepped_to graph marks count to || (is_marked marks count && has (ahead graph count) to)

-- ---- what is kept of a graph

-- marks on the places that are reached from the top and on those where paths of the greatest length end, and whether no
-- edge leads on from there
pub record IsKept (graph : Graph) (top : ℕ) (reached ends : List Bool) (is_short : Bool) : Type 0 where
  pub closed : IsClosed graph
  pub reached_len : length reached ≡ length graph
  pub reaches : (place : ℕ) → place < length graph → is_marked reached place ≡ walks_to graph top place
  pub ends_len : length ends ≡ length graph
  pub ends_paths : (place : ℕ) → place < length graph → is_marked ends place ≡ ends_path graph top place
  pub short : is_short ≡ true → IsShort graph top

-- ---- the modules of a design

-- the graph of modules, looked at from the top's place
abbrev pub rooted_at : List Module → ℕ → Rooted
rooted_at modules top = record { graph = graph_of (place_among modules) modules; top = top }

-- No two modules have one name.
abbrev pub AreDistinct : List Module → Type 0
AreDistinct modules = (place : ℕ) → place < length modules → place_among modules (name_at modules place) ≡ Some place

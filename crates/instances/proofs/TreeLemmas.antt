-- Instances by the places of their modules are those of the design.
use Rattle.std.proofs.Common.{◌≡◌, ℕ, zero, suc, ◌+◌, ◌<◌, List, [], ◌∷◌, ◌++◌, length, map, refl, sym, ◌∙◌, ap, subst, arith, flat_map, Option, None, Some, option_and_then, slice_get, filter_map, IfErr, IsErrAnd, Result, Ok, Err}
use Rattle.std.specs.List.{cons_option}
use Rattle.std.specs.Option.{option_map}
use Rattle.std.proofs.lemmas.List.{length-map, map-append}
use Rattle.std.proofs.lemmas.Option.{slice_get_within}
use Rattle.flat_net.specs.declared.fault.FlatFault.{FlatFault}
use Rattle.vlog_tree.specs.declared.design.Design.{Design}
use Rattle.vlog_tree.specs.declared.design.Module.{Module}
use Rattle.vlog_tree.specs.declared.item.Item.{Item}
use Rattle.vlog_tree.specs.declared.item.Item.TheVariants.{Always, Assign, Decl, Gate, Initial, Instance}
use Rattle.vlog_tree.specs.Meaning.Instances.{Child, child_of, children, module_named}
use Rattle.hierarchy.specs.Graph.{Graph, ahead, graph_of, inner_places, place_among}
use Rattle.hierarchy.proofs.DesignLemmas.{found_at, place_within}
use Rattle.instances.specs.declared.placed.Placed.{Placed}
use Rattle.instances.specs.Adding.{placed_from, placed_with}
use Rattle.instances.specs.Placing.{HasShapes, IsRefused, IsWithin, shape_at}
use Rattle.instances.specs.Shapes.{Shape, shape_with, shapes_from}
use Rattle.instances.proofs.AddingLemmas.{placed_some, refused_more}

pub shapes_some : (design : Design) (depth : ℕ) (m : Module) →
    shapes_from design (suc depth) m ≡ shape_with m (flat_map (λ child. shapes_from design depth child.definition) (children design m))
unfolding shapes_from
shapes_some design depth m = refl

none_yet : (modules : List Module) (design : Design) (graph : Graph) (place : ℕ) (m : Module) →
    HasShapes modules (placed_from graph 0 place) (shapes_from design 0 m)
unfolding shapes_from placed_from
none_yet modules design graph place m = refl

-- ---- an instance, and then those that stand in it

pub as_long : (modules : List Module) (list : List Placed) (shapes : List Shape) → HasShapes modules list shapes →
    length list ≡ length shapes
as_long modules list shapes h = sym (length-map list (shape_at modules)) ∙ ap length h ∙ length-map shapes Some

with_inner : (modules : List Module) (place : ℕ) (m : Module) (inner : List Placed) (shapes : List Shape) →
    slice_get modules place ≡ Some m → HasShapes modules inner shapes → HasShapes modules (placed_with place inner) (shape_with m shapes)
with_inner modules place m inner shapes is h =
    let first : Placed = record { «module» = place; size = 1 + length inner } in
    let same : shape_at modules first ≡ Some (record { definition = m; size = 1 + length shapes }) =
    ap (option_map (λ n. record { definition = n; size = 1 + length inner })) is
    ∙ ap (λ n. Some (record { definition = m; size = 1 + n })) (as_long modules inner shapes h) in
    ap (λ o. o ∷ map (shape_at modules) inner) same ∙ ap (λ xs. Some (record { definition = m; size = 1 + length shapes }) ∷ xs) h

-- ---- the instances in a module

joined : (modules : List Module) (here later : List Placed) (shapes others : List Shape) → HasShapes modules here shapes →
    HasShapes modules later others → HasShapes modules (here ++ later) (shapes ++ others)
joined modules here later shapes others h k =
    map-append (shape_at modules) here later ∙ ap (λ xs. xs ++ map (shape_at modules) later) h ∙ ap (λ xs. map Some shapes ++ xs) k
    ∙ sym (map-append Some shapes others)

none_within : (modules : List Module) (place : ℕ) → place < length modules → slice_get modules place ≡ None → ⊥
none_within [] place h is = absurd (omega arith)
none_within (m ∷ modules) zero h is = absurd (cc)
none_within (m ∷ modules) (suc place) h is = none_within modules place (omega arith) is

item_step : (modules : List Module) (P : ℕ → List Placed) (S : Module → List Shape) (o : Option ℕ) (found : Option Module)
    (mk : Module → Child) (places : List ℕ) (others : List Child) → ((m : Module) → (mk m).definition ≡ m) →
    option_and_then (slice_get modules) o ≡ found → ((place : ℕ) → o ≡ Some place → place < length modules) →
    ((place : ℕ) (m : Module) → slice_get modules place ≡ Some m → HasShapes modules (P place) (S m)) →
    HasShapes modules (flat_map P places) (flat_map (λ child. S child.definition) others) →
    HasShapes modules (flat_map P (cons_option o places))
    (flat_map (λ child. S child.definition) (cons_option (option_map mk found) others))
item_step modules P S None None mk places others made is within each rest = rest
item_step modules P S None (Some m) mk places others made is within each rest = absurd (cc)
item_step modules P S (Some place) None mk places others made is within each rest =
    absurd (none_within modules place (within place refl) is)
item_step modules P S (Some place) (Some m) mk places others made is within each rest =
    joined modules (P place) (flat_map P places) (S (mk m).definition) (flat_map (λ child. S child.definition) others)
    (subst (λ n. HasShapes modules (P place) (S n)) (sym (made m)) (each place m is)) rest

module _ (design : Design) (P : ℕ → List Placed) (S : Module → List Shape)
    (each : (place : ℕ) (m : Module) → slice_get design.modules place ≡ Some m → HasShapes design.modules (P place) (S m)) where
  items_step : (items : List Item) →
      HasShapes design.modules (flat_map P (inner_places (place_among design.modules) items))
      (flat_map (λ child. S child.definition) (filter_map (child_of design) items))
  items_step [] = refl
  items_step (Instance at inner name links ∷ items) =
      item_step design.modules P S (place_among design.modules inner) (module_named design inner)
      (λ m. record { name = name; definition = m; links = links })
      (inner_places (place_among design.modules) items) (filter_map (child_of design) items) (λ m. refl) (found_at design.modules inner)
      (λ place e. place_within design.modules inner place e) each (items_step items)
  items_step (Decl at dir kind range name ∷ items) = items_step items
  items_step (Assign at left right ∷ items) = items_step items
  items_step (Gate at kind name outs ins ∷ items) = items_step items
  items_step (Always at clock body ∷ items) = items_step items
  items_step (Initial at name value ∷ items) = items_step items

ahead_of : (f : Module → List ℕ) (modules : List Module) (place : ℕ) (m : Module) → slice_get modules place ≡ Some m →
    ahead (map f modules) place ≡ f m
ahead_of f [] place m h = absurd (cc)
ahead_of f (n ∷ modules) zero m h = let e : n ≡ m = cc in ap f e
ahead_of f (n ∷ modules) (suc place) m h = ahead_of f modules place m h

pub placed_shapes : (design : Design) (depth place : ℕ) (m : Module) → slice_get design.modules place ≡ Some m →
    HasShapes design.modules (placed_from (graph_of (place_among design.modules) design.modules) depth place) (shapes_from design depth m)
placed_shapes design zero place m is = none_yet design.modules design (graph_of (place_among design.modules) design.modules) place m
placed_shapes design (suc depth) place m is =
    let modules = design.modules in
    let graph = graph_of (place_among modules) modules in
    let places = inner_places (place_among modules) m.items in
    let here : placed_from graph (suc depth) place ≡ placed_with place (flat_map (placed_from graph depth) places) =
    placed_some graph depth place
    ∙ ap (λ ps. placed_with place (flat_map (placed_from graph depth) ps))
    (ahead_of (λ n. inner_places (place_among modules) n.items) modules place m is) in
    let inner = items_step design (placed_from graph depth) (shapes_from design depth) (placed_shapes design depth) m.items in
    ap (map (shape_at modules)) here
    ∙ with_inner modules place m (flat_map (placed_from graph depth) places)
    (flat_map (λ child. shapes_from design depth child.definition) (children design m)) is inner
    ∙ sym (ap (map Some) (shapes_some design depth m))

-- ---- the list of a design

within_one : (modules : List Module) (o : Option Module) (placed : Placed) (shape : Shape) → slice_get modules placed.module ≡ o →
    option_map (λ m. let made : Shape = record { definition = m; size = placed.size } in made) o ≡ Some shape →
    placed.module < length modules
within_one modules None placed shape is h = absurd (cc)
within_one modules (Some m) placed shape is h = slice_get_within modules placed.module m is

pub within_all : (modules : List Module) (list : List Placed) (shapes : List Shape) → HasShapes modules list shapes →
    IsWithin (length modules) list
within_all modules [] shapes h place placed is = absurd (cc)
within_all modules (p ∷ list) [] h place placed is = absurd (cc)
within_all modules (p ∷ list) (s ∷ shapes) h zero placed is =
    subst (λ q. q.module < length modules) (let e : p ≡ placed = cc in e) (within_one modules (slice_get modules p.module) p s refl (cc))
within_all modules (p ∷ list) (s ∷ shapes) h (suc place) placed is = within_all modules list shapes (cc) place placed is

every_passed : {X : Type 0} (count : Module → ℕ) (result : Result X FlatFault) (why : FlatFault) (top : Option Module) →
    IsErrAnd result (λ fault. fault ≡ why) → ((m : Module) → top ≡ Some m → IsRefused (count m) why) →
    IfErr result (λ fault. (m : Module) → top ≡ Some m → IsRefused (count m) fault)
every_passed count (Ok x) why top is refused = tt
every_passed count (Err fault) why top is refused = λ m named. subst (IsRefused (count m)) (sym is) (refused m named)

some_at : (modules : List Module) (place : ℕ) → place < length modules → (m : Module) × (slice_get modules place ≡ Some m)
some_at [] place h = absurd (omega arith)
some_at (m ∷ modules) zero h = (m, refl)
some_at (m ∷ modules) (suc place) h = some_at modules place (omega arith)

module _ (design : Design) (graph : Graph) (is_graph : graph ≡ graph_of (place_among design.modules) design.modules) (depth place : ℕ) where
  shapes_placed : (m : Module) → slice_get design.modules place ≡ Some m →
      HasShapes design.modules (placed_from graph depth place) (shapes_from design depth m)
  shapes_placed m is = ap (λ g. map (shape_at design.modules) (placed_from g depth place)) is_graph ∙ placed_shapes design depth place m is

  -- what stands in a list that was empty, from the top
  pub listed : (list empty : List Placed) (m : Module) (top : Option Module) → slice_get design.modules place ≡ top → empty ≡ [] →
      list ≡ empty ++ placed_from graph depth place → top ≡ Some m → HasShapes design.modules list (shapes_from design depth m)
  listed list empty m top is none added named =
      ap (map (shape_at design.modules)) (added ∙ ap (λ xs. xs ++ placed_from graph depth place) none) ∙ shapes_placed m (is ∙ named)

  pub listed_within : (list empty : List Placed) → place < length design.modules → empty ≡ [] →
      list ≡ empty ++ placed_from graph depth place → IsWithin (length design.modules) list
  listed_within list empty h none added =
      let some = some_at design.modules place h in
      within_all design.modules list (shapes_from design depth some.0)
      (listed list empty some.0 (slice_get design.modules place) refl none added some.1)

  -- Too many by places are too many of the design.
  pub listed_refused : {X : Type 0} (result : Result X FlatFault) (why : FlatFault) (empty : List Placed) (top : Option Module) →
      IsErrAnd result (λ fault. fault ≡ why) → slice_get design.modules place ≡ top → empty ≡ [] →
      IsRefused (length empty + length (placed_from graph depth place)) why →
      IfErr result (λ fault. (m : Module) → top ≡ Some m → IsRefused (length (shapes_from design depth m)) fault)
  listed_refused result why empty top passed is none refused =
      every_passed (λ m. length (shapes_from design depth m)) result why top passed (λ m named.
      let list = placed_from graph depth place in
      let long = as_long design.modules list (shapes_from design depth m) (shapes_placed m (is ∙ named)) in
      let short : length empty ≡ 0 = ap length none in
      refused_more (length empty + length list) (length (shapes_from design depth m)) why (omega arith) refused)

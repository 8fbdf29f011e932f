-- A design by the places of its modules.
use Rattle.std.proofs.Common.{◌≡◌, ℕ, zero, suc, ◌+◌, ◌<◌, Bool, true, false, ◌||◌, List, [], ◌∷◌, ◌++◌, length, drop, get_or, map, refl, sym, ◌∙◌, ap, subst, arith, cond, fold, flat_map, Option, None, Some, bytes_eq, nat_eq, ◌⊎◌, inl, inr, filter, is_none, slice_get, option_and_then, slice_index_or}
use Rattle.std.specs.Cmp.Lexicographic.{bytes_decides}
use Rattle.std.specs.Option.{option_map, option_to_list}
use Rattle.std.specs.List.{list_any, filter_map, cons_option, find, range_with_len}
use Rattle.std.proofs.lemmas.Bool.{eq-eqb, eqb-true, false≢true, or_cases, or_left, or_right}
use Rattle.std.proofs.lemmas.List.{append-nil, drop_more, length-map}
use Rattle.std.proofs.lemmas.List.Sums.{fold-append}
use Rattle.vlog_tree.specs.declared.design.Design.{Design}
use Rattle.vlog_tree.specs.declared.design.Module.{Module}
use Rattle.vlog_tree.specs.declared.item.Item.{Item}
use Rattle.vlog_tree.specs.declared.item.Item.TheVariants.{Always, Assign, Decl, Gate, Initial, Instance}
use Rattle.vlog_tree.specs.Meaning.Instances.{child_of, module_named}
use Rattle.vlog_tree.specs.Meaning.Uses.{Text}
use Rattle.hierarchy.specs.Failures.{Failure, earlier, failure}
use Rattle.hierarchy.specs.Graph.{AreDistinct, Graph, IsClosed, Rooted, ahead, bad_item, bad_items_from, ends_path, graph_of, has, inner_places, is_bad_edge, leads_back, name_at, place_among, rooted_at, walks, walks_to}
use Rattle.hierarchy.specs.Reach.{inner_names, inner_names_of, leads, reaches}
use Rattle.hierarchy.specs.Rules.{bad_instance, bad_instances, greatest_path, is_bad_instance}
use Rattle.hierarchy.proofs.MarkLemmas.{same_test}

next_left : (modules : List Module) (i : ℕ) (m : Module) → i < length modules → m ≡ get_or modules i m → drop i modules ≡ m ∷ drop (i + 1) modules
next_left modules i m h is = drop_more modules i m h ∙ ap (λ n. n ∷ drop (i + 1) modules) (sym is)

-- the next module, where a loop notes what is refused
pub bad_turn : (rooted : Rooted) (place_of : Text → Option ℕ) (modules : List Module) (place : ℕ) (m : Module) (found after : Option Failure) → place < length modules → m ≡ get_or modules place m → after ≡ fold earlier found (cond (walks_to rooted.graph rooted.top place) (flat_map (bad_item rooted place_of place m) m.items) []) → fold earlier after (bad_items_from rooted place_of (place + 1) (drop (place + 1) modules)) ≡ fold earlier found (bad_items_from rooted place_of place (drop place modules))
bad_turn rooted place_of modules place m found after h is noted =
    ap (λ f. fold earlier f (bad_items_from rooted place_of (place + 1) (drop (place + 1) modules))) noted
    ∙ sym (fold-append earlier found (cond (walks_to rooted.graph rooted.top place) (flat_map (bad_item rooted place_of place m) m.items) []) (bad_items_from rooted place_of (place + 1) (drop (place + 1) modules)))
    ∙ sym (ap (λ ms. fold earlier found (bad_items_from rooted place_of place ms)) (next_left modules place m h is))

-- ---- modules by name

place_step : (b : Bool) (o : Option ℕ) (place : ℕ) → cond b (Some 0) (option_map suc o) ≡ Some place → (place ≡ 0) ⊎ ((before : ℕ) × (o ≡ Some before) × (place ≡ suc before))
place_step true o place h = inl (sym (cc))
place_step false None place h = absurd (cc)
place_step false (Some before) place h = inr (before, refl, cc)

pub place_within : (modules : List Module) (name : Text) (place : ℕ) → place_among modules name ≡ Some place → place < length modules
place_within [] name place h = absurd (cc)
place_within (m ∷ modules) name place h =
    elim (place_step (bytes_eq m.name name) (place_among modules name) place h) [
      | inl first ↦ omega arith
      | inr later ↦ let r = place_within modules name later.0 later.1 in let e = later.2 in omega arith
    ]

-- what is told of the first module of a name is told of the one at its place
found_by : {X : Type 0} (b : Bool) (here : X) (o : Option ℕ) (f : ℕ → Option X) (g : ℕ → Option X) (rest : Option X) → f 0 ≡ Some here → ((place : ℕ) → f (suc place) ≡ g place) → option_and_then g o ≡ rest → option_and_then f (cond b (Some 0) (option_map suc o)) ≡ cond b (Some here) rest
found_by true here o f g rest first later e = first
found_by false here None f g rest first later e = e
found_by false here (Some place) f g rest first later e = later place ∙ e

pub found_at : (modules : List Module) (name : Text) → option_and_then (slice_get modules) (place_among modules name) ≡ find (λ m. bytes_eq m.name name) modules
found_at [] name = refl
found_at (m ∷ modules) name =
    found_by (bytes_eq m.name name) m (place_among modules name) (slice_get (m ∷ modules)) (slice_get modules) (find (λ n. bytes_eq n.name name) modules) refl (λ place. refl) (found_at modules name)

named_by : (b : Bool) (here : Module) (found : Option Module) (o : Option ℕ) (f g : ℕ → Text) → f 0 ≡ here.name → ((place : ℕ) → f (suc place) ≡ g place) → option_map (λ m. m.name) found ≡ option_map g o → option_map (λ m. m.name) (cond b (Some here) found) ≡ option_map f (cond b (Some 0) (option_map suc o))
named_by true here found o f g first later e = ap Some (sym first)
named_by false here found None f g first later e = e
named_by false here found (Some place) f g first later e = e ∙ ap Some (sym (later place))

-- the name of the first module of a name, which is that name
pub named_at : (modules : List Module) (name : Text) → option_map (λ m. m.name) (find (λ m. bytes_eq m.name name) modules) ≡ option_map (name_at modules) (place_among modules name)
named_at [] name = refl
named_at (m ∷ modules) name =
    named_by (bytes_eq m.name name) m (find (λ n. bytes_eq n.name name) modules) (place_among modules name) (name_at (m ∷ modules)) (name_at modules) refl (λ place. refl) (named_at modules name)

named_step : (b : Bool) (here : Text) (o : Option ℕ) (place : ℕ) (f g : ℕ → Text) (name : Text) → (b ≡ true → here ≡ name) → f 0 ≡ here → ((later : ℕ) → f (suc later) ≡ g later) → ((later : ℕ) → o ≡ Some later → g later ≡ name) → cond b (Some 0) (option_map suc o) ≡ Some place → f place ≡ name
named_step true here o place f g name same first later rest h = let e : 0 ≡ place = cc in ap f (sym e) ∙ first ∙ same refl
named_step false here None place f g name same first later rest h = absurd (cc)
named_step false here (Some before) place f g name same first later rest h = let e : suc before ≡ place = cc in ap f (sym e) ∙ later before ∙ rest before refl

pub name_is : (modules : List Module) (name : Text) (place : ℕ) → place_among modules name ≡ Some place → name_at modules place ≡ name
name_is [] name place h = absurd (cc)
name_is (m ∷ modules) name place h =
    named_step (bytes_eq m.name name) m.name (place_among modules name) place (name_at (m ∷ modules)) (name_at modules) name (λ e. (bytes_decides m.name name).0 e) refl (λ later. refl) (name_is modules name) h

-- ---- the graph of modules

map-cons_option : {X Y : Type 0} (f : X → Y) (o : Option X) (xs : List X) → map f (cons_option o xs) ≡ cons_option (option_map f o) (map f xs)
map-cons_option f None xs = refl
map-cons_option f (Some x) xs = refl

option_map-twice : {X Y Z : Type 0} (f : Y → Z) (g : X → Y) (o : Option X) → option_map f (option_map g o) ≡ option_map (λ x. f (g x)) o
option_map-twice f g None = refl
option_map-twice f g (Some x) = refl

inner_names_at : (design : Design) (items : List Item) → map (λ child. child.definition.name) (filter_map (child_of design) items) ≡ map (name_at design.modules) (inner_places (place_among design.modules) items)
inner_names_at design [] = refl
inner_names_at design (Instance at inner name links ∷ items) =
    map-cons_option (λ child. child.definition.name) (child_of design (Instance at inner name links)) (filter_map (child_of design) items)
    ∙ ap (cons_option (option_map (λ child. child.definition.name) (child_of design (Instance at inner name links)))) (inner_names_at design items)
    ∙ ap (λ o. cons_option o (map (name_at design.modules) (inner_places (place_among design.modules) items)))
    (option_map-twice (λ child. child.definition.name) (λ m. record { name = name; definition = m; links = links }) (module_named design inner) ∙ named_at design.modules inner)
    ∙ sym (map-cons_option (name_at design.modules) (place_among design.modules inner) (inner_places (place_among design.modules) items))
inner_names_at design (Decl at dir kind range name ∷ items) = inner_names_at design items
inner_names_at design (Assign at left right ∷ items) = inner_names_at design items
inner_names_at design (Gate at kind name outs ins ∷ items) = inner_names_at design items
inner_names_at design (Always at clock body ∷ items) = inner_names_at design items
inner_names_at design (Initial at name value ∷ items) = inner_names_at design items

ahead_flat : (g : Module → List Text) (h : ℕ → Text) (f : Module → List ℕ) → ((m : Module) → g m ≡ map h (f m)) → (modules : List Module) (place : ℕ) → flat_map g (option_to_list (slice_get modules place)) ≡ map h (slice_index_or (map f modules) place [])
ahead_flat g h f same [] place = refl
ahead_flat g h f same (m ∷ modules) zero = append-nil (g m) ∙ same m
ahead_flat g h f same (m ∷ modules) (suc place) = ahead_flat g h f same modules place

closed_step : (modules : List Module) (o : Option ℕ) (rest : List ℕ) (to : ℕ) → ((place : ℕ) → o ≡ Some place → place < length modules) → (has rest to ≡ true → to < length modules) → has (cons_option o rest) to ≡ true → to < length modules
closed_step modules None rest to first later h = later h
closed_step modules (Some place) rest to first later h =
    elim (or_cases (nat_eq place to) (has rest to) h) [
      | inl same ↦ subst (λ p. p < length modules) (eqb-true place to same) (first place refl)
      | inr e ↦ later e
    ]

closed_items : (modules : List Module) (items : List Item) (to : ℕ) → has (inner_places (place_among modules) items) to ≡ true → to < length modules
closed_items modules [] to h = absurd (false≢true h)
closed_items modules (Instance at inner name links ∷ items) to h = closed_step modules (place_among modules inner) (inner_places (place_among modules) items) to (place_within modules inner) (closed_items modules items to) h
closed_items modules (Decl at dir kind range name ∷ items) to h = closed_items modules items to h
closed_items modules (Assign at left right ∷ items) to h = closed_items modules items to h
closed_items modules (Gate at kind name outs ins ∷ items) to h = closed_items modules items to h
closed_items modules (Always at clock body ∷ items) to h = closed_items modules items to h
closed_items modules (Initial at name value ∷ items) to h = closed_items modules items to h

closed_at : (modules rest : List Module) (from to : ℕ) → has (ahead (graph_of (place_among modules) rest) from) to ≡ true → to < length modules
closed_at modules [] from to h = absurd (false≢true h)
closed_at modules (m ∷ rest) zero to h = closed_items modules m.items to h
closed_at modules (m ∷ rest) (suc from) to h = closed_at modules rest from to h

pub closed_graph : (modules : List Module) → IsClosed (graph_of (place_among modules) modules)
closed_graph modules from to h =
    subst (λ n. to < n) (sym (length-map modules (λ m. inner_places (place_among modules) m.items))) (closed_at modules modules from to h)

-- ---- walks are paths of instances

any_map : (f : Text → Bool) (h : ℕ → Text) (k : ℕ → Bool) (xs : List ℕ) → ((x : ℕ) → has xs x ≡ true → f (h x) ≡ k x) → list_any f (map h xs) ≡ list_any k xs
any_map f h k [] same = refl
any_map f h k (x ∷ xs) same =
    ap (λ b. b || list_any f (map h xs)) (same x (or_left _ (has xs x) (eq-eqb x x refl)))
    ∙ ap (λ b. k x || b) (any_map f h k xs (λ y e. same y (or_right (nat_eq x y) _ e)))

any_same : (f k : ℕ → Bool) (xs : List ℕ) → ((x : ℕ) → f x ≡ k x) → list_any f xs ≡ list_any k xs
any_same f k xs same = ap (λ test. list_any test xs) (λ i x. same x i)

module _ (design : Design) (distinct : AreDistinct design.modules) where
  inner_names_is : (place : ℕ) → place < length design.modules → inner_names_of design (name_at design.modules place) ≡ map (name_at design.modules) (ahead (graph_of (place_among design.modules) design.modules) place)
  inner_names_is place h =
      let named : module_named design (name_at design.modules place) ≡ slice_get design.modules place =
      sym (found_at design.modules (name_at design.modules place)) ∙ ap (option_and_then (slice_get design.modules)) (distinct place h) in
      ap (λ o. flat_map (inner_names design) (option_to_list o)) named
      ∙ ahead_flat (inner_names design) (name_at design.modules) (λ m. inner_places (place_among design.modules) m.items) (λ m. inner_names_at design m.items) design.modules place

  same_place : (from to : ℕ) → from < length design.modules → to < length design.modules → bytes_eq (name_at design.modules from) (name_at design.modules to) ≡ nat_eq from to
  same_place from to h k =
      same_test _ _
      (λ e.
      let names : name_at design.modules from ≡ name_at design.modules to = (bytes_decides (name_at design.modules from) (name_at design.modules to)).0 e in
      let places : Some from ≡ Some to = sym (distinct from h) ∙ ap (place_among design.modules) names ∙ distinct to k in
      eq-eqb from to (cc))
      (λ e. (bytes_decides (name_at design.modules from) (name_at design.modules to)).1 (ap (name_at design.modules) (eqb-true from to e)))

  pub leads_walks : (count from to : ℕ) → from < length design.modules → to < length design.modules → leads design count (name_at design.modules from) (name_at design.modules to) ≡ walks (graph_of (place_among design.modules) design.modules) count from to
  leads_walks zero from to h k = same_place from to h k
  leads_walks (suc count) from to h k =
      ap (list_any (λ next. leads design count next (name_at design.modules to))) (inner_names_is from h)
      ∙ any_map (λ next. leads design count next (name_at design.modules to)) (name_at design.modules) (λ next. walks (graph_of (place_among design.modules) design.modules) count next to)
      (ahead (graph_of (place_among design.modules) design.modules) from) (λ next e. leads_walks count next to (closed_at design.modules design.modules from next e) k)

  pub reaches_walks : (from to : ℕ) → from < length design.modules → to < length design.modules → reaches design (name_at design.modules from) (name_at design.modules to) ≡ walks_to (graph_of (place_among design.modules) design.modules) from to
  reaches_walks from to h k =
      any_same (λ count. leads design count (name_at design.modules from) (name_at design.modules to)) (λ count. walks (graph_of (place_among design.modules) design.modules) count from to) (range_with_len 0 (length design.modules + 1)) (λ count. leads_walks count from to h k)
      ∙ ap (λ n. list_any (λ count. walks (graph_of (place_among design.modules) design.modules) count from to) (range_with_len 0 (n + 1))) (sym (length-map design.modules (λ m. inner_places (place_among design.modules) m.items)))

-- ---- rule E3 by places

flat_map_same : {X Y : Type 0} (f g : X → List Y) (xs : List X) → ((x : X) → f x ≡ g x) → flat_map f xs ≡ flat_map g xs
flat_map_same f g xs same = ap (λ h. flat_map h xs) (λ i x. same x i)

flat_map_cond : {X Y : Type 0} (f : X → List Y) (b : Bool) (x : X) (xs : List X) → flat_map f (cond b (x ∷ xs) xs) ≡ cond b (f x) [] ++ flat_map f xs
flat_map_cond f true x xs = refl
flat_map_cond f false x xs = refl

or_true : (a : Bool) → (a || true) ≡ true
or_true true = refl
or_true false = refl

or_turned : (a b : Bool) → (a || b) ≡ (b || a)
or_turned true b = sym (or_true b)
or_turned false true = refl
or_turned false false = refl

is_none-named : (o : Option ℕ) (found : Option Module) (f : ℕ → Text) → option_map (λ m. m.name) found ≡ option_map f o → is_none found ≡ is_none o
is_none-named None None f e = refl
is_none-named None (Some m) f e = absurd (cc)
is_none-named (Some place) None f e = absurd (cc)
is_none-named (Some place) (Some m) f e = refl

-- whether an instance is refused, where its module stands at this place
bad_by : (o : Option ℕ) (back ends none : Bool) (graph : Graph) (outer : ℕ) → none ≡ is_none o → ((inner : ℕ) → o ≡ Some inner → back ≡ walks_to graph inner outer) → (none || (back || ends)) ≡ (ends || leads_back graph outer o)
bad_by None back ends none graph outer e walked = ap (λ b. b || (back || ends)) e ∙ sym (or_true ends)
bad_by (Some inner) back ends none graph outer e walked =
    ap (λ b. b || (back || ends)) e ∙ ap (λ b. b || ends) (walked inner refl) ∙ or_turned (walks_to graph inner outer) ends

module _ (design : Design) (distinct : AreDistinct design.modules) (top : ℕ) (within : top < length design.modules) where
  bad_edge_is : (outer : ℕ) → outer < length design.modules → (inner : Text) → is_bad_instance design (name_at design.modules top) (name_at design.modules outer) inner ≡ is_bad_edge (rooted_at design.modules top) outer (place_among design.modules inner)
  unfolding ends_path
  bad_edge_is outer h inner =
      ap (λ b. is_none (module_named design inner) || (reaches design inner (name_at design.modules outer) || b)) (leads_walks design distinct greatest_path top outer within h)
      ∙ bad_by (place_among design.modules inner) (reaches design inner (name_at design.modules outer)) (walks (graph_of (place_among design.modules) design.modules) greatest_path top outer) (is_none (module_named design inner)) (graph_of (place_among design.modules) design.modules) outer
      (is_none-named (place_among design.modules inner) (module_named design inner) (name_at design.modules) (named_at design.modules inner))
      (λ place e.
      ap (λ name. reaches design name (name_at design.modules outer)) (sym (name_is design.modules inner place e))
      ∙ reaches_walks design distinct place outer (place_within design.modules inner place e) h)

  bad_item_is : (outer : ℕ) → outer < length design.modules → (m : Module) → m.name ≡ name_at design.modules outer → (item : Item) → bad_instance design (name_at design.modules top) m item ≡ bad_item (rooted_at design.modules top) (place_among design.modules) outer m item
  bad_item_is outer h m named (Instance at inner name links) =
      ap (λ b. cond b (failure at m.name name ∷ []) [])
      (ap (λ outer_name. is_bad_instance design (name_at design.modules top) outer_name inner) named ∙ bad_edge_is outer h inner)
  bad_item_is outer h m named (Decl at dir kind range name) = refl
  bad_item_is outer h m named (Assign at left right) = refl
  bad_item_is outer h m named (Gate at kind name outs ins) = refl
  bad_item_is outer h m named (Always at clock body) = refl
  bad_item_is outer h m named (Initial at name value) = refl

  bad_from : (place : ℕ) (modules : List Module) → place + length modules ≡ length design.modules → ((i j : ℕ) → j ≡ place + i → i < length modules → name_at design.modules j ≡ name_at modules i) → flat_map (λ m. flat_map (bad_instance design (name_at design.modules top) m) m.items) (filter (λ m. reaches design (name_at design.modules top) m.name) modules) ≡ bad_items_from (rooted_at design.modules top) (place_among design.modules) place modules
  bad_from place [] len names = refl
  bad_from place (m ∷ modules) len names =
      let here : place < length design.modules = omega arith in
      let named : name_at design.modules place ≡ m.name = names 0 place (omega arith) (omega arith) in
      let bad = λ (n : Module). flat_map (bad_instance design (name_at design.modules top) n) n.items in
      let rest = filter (λ (n : Module). reaches design (name_at design.modules top) n.name) modules in
      flat_map_cond bad (reaches design (name_at design.modules top) m.name) m rest
      ∙ ap (λ b. cond b (bad m) [] ++ flat_map bad rest) (ap (reaches design (name_at design.modules top)) (sym named) ∙ reaches_walks design distinct top place within here)
      ∙ ap (λ items. cond (walks_to (graph_of (place_among design.modules) design.modules) top place) items [] ++ flat_map bad rest)
      (flat_map_same (bad_instance design (name_at design.modules top) m) (bad_item (rooted_at design.modules top) (place_among design.modules) place m) m.items (bad_item_is place here m (sym named)))
      ∙ ap (λ later. cond (walks_to (graph_of (place_among design.modules) design.modules) top place) (flat_map (bad_item (rooted_at design.modules top) (place_among design.modules) place m) m.items) [] ++ later)
      (bad_from (place + 1) modules (omega arith) (λ i j e k. names (suc i) j (omega arith) (omega arith)))

  pub bad_instances_are : bad_instances design (name_at design.modules top) ≡ bad_items_from (rooted_at design.modules top) (place_among design.modules) 0 design.modules
  bad_instances_are = bad_from 0 design.modules (omega arith) (λ i j e k. ap (name_at design.modules) (let same : j ≡ i = omega arith in same))

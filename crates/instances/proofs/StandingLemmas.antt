-- Where the instances of a design stand.
use Rattle.std.proofs.Common.{◌≡◌, ℕ, zero, suc, ◌+◌, ◌-◌, ◌<◌, ◌≤◌, List, [], ◌∷◌, ◌++◌, length, drop, map, refl, sym, ◌∙◌, ap, subst, arith, flat_map, inl, inr, append_assoc, length-append, Option, Some, slice_get}
use Rattle.std.specs.Option.{option_to_list}
use Rattle.std.proofs.lemmas.Bool.{cases_lt}
use Rattle.std.proofs.lemmas.List.{append-nil, drop-append-le, drop-drop, drop_at, length-map, map-append}
use Rattle.std.proofs.Math.Seq.{drop-append-add}
use Rattle.vlog_tree.specs.declared.design.Design.{Design}
use Rattle.vlog_tree.specs.declared.design.Module.{Module}
use Rattle.vlog_tree.specs.Meaning.Instances.{Child, Instance, Path, children, down_from, inside}
use Rattle.instances.specs.Shapes.{Shape, shape_with, shapes_from, size_at}
use Rattle.instances.specs.Standing.{ChildrenStand}
use Rattle.instances.proofs.TreeLemmas.{shapes_some}

-- ---- the modules of the instances

same_flat : {X A B C : Type 0} (f : A → C) (g : B → C) (F : X → List A) (G : X → List B) → ((x : X) → map f (F x) ≡ map g (G x)) →
    (xs : List X) → map f (flat_map F xs) ≡ map g (flat_map G xs)
same_flat f g F G same [] = refl
same_flat f g F G same (x ∷ xs) =
    map-append f (F x) (flat_map F xs) ∙ ap (λ ys. ys ++ map f (flat_map F xs)) (same x)
    ∙ ap (λ ys. map g (G x) ++ ys) (same_flat f g F G same xs)
    ∙ sym (map-append g (G x) (flat_map G xs))

no_shapes : (design : Design) (m : Module) → shapes_from design 0 m ≡ []
unfolding shapes_from
no_shapes design m = refl

abbrev shape_definition : Shape → Module
shape_definition shape = shape.definition

abbrev instance_definition : Instance → Module
instance_definition instance = instance.definition

pub same_definitions : (design : Design) (depth : ℕ) (instance : Instance) →
    map (λ shape. shape.definition) (shapes_from design depth instance.definition)
    ≡ map (λ instance. instance.definition) (down_from design depth instance)
same_definitions design zero instance = ap (map shape_definition) (no_shapes design instance.definition)
same_definitions design (suc depth) instance =
    ap (map shape_definition) (shapes_some design depth instance.definition)
    ∙ ap (λ ms. instance.definition ∷ ms)
    (same_flat shape_definition instance_definition (λ child. shapes_from design depth child.definition)
    (λ child. down_from design depth (inside instance.path child))
    (λ child. same_definitions design depth (inside instance.path child)) (children design instance.definition))

pub as_many : (design : Design) (depth : ℕ) (instance : Instance) →
    length (down_from design depth instance) ≡ length (shapes_from design depth instance.definition)
as_many design depth instance =
    sym (length-map (down_from design depth instance) instance_definition) ∙ sym (ap length (same_definitions design depth instance))
    ∙ length-map (shapes_from design depth instance.definition) shape_definition

-- ---- an instance in the list, and what follows it

slice_get-left : {X : Type 0} (xs ys : List X) (i : ℕ) → i < length xs → slice_get (xs ++ ys) i ≡ slice_get xs i
slice_get-left [] ys i h = absurd (omega arith)
slice_get-left (x ∷ xs) ys zero h = refl
slice_get-left (x ∷ xs) ys (suc i) h = slice_get-left xs ys i (omega arith)

slice_get-right : {X : Type 0} (xs ys : List X) (i j : ℕ) → i ≡ length xs + j → slice_get (xs ++ ys) i ≡ slice_get ys j
slice_get-right [] ys i j e = ap (slice_get ys) (let same : i ≡ j = omega arith in same)
slice_get-right (x ∷ xs) ys zero j e = absurd (omega arith)
slice_get-right (x ∷ xs) ys (suc i) j e = slice_get-right xs ys i j (omega arith)

-- From its place on stand the instance and what it holds down to a depth, and their shapes.
record IsLocated (design : Design) (list : List Instance) (shapes : List Shape) (i : ℕ) (outer : Instance) (deepest : ℕ) : Type 0 where
  below : ℕ
  later : List Instance
  later_shapes : List Shape
  list_is : drop i list ≡ down_from design (suc below) outer ++ later
  shapes_is : drop i shapes ≡ shapes_from design (suc below) outer.definition ++ later_shapes
  deep : length outer.path + suc below ≡ deepest

located_left : (design : Design) (xs ys : List Instance) (ss us : List Shape) (i : ℕ) (outer : Instance) (deepest : ℕ) →
    length xs ≡ length ss → i ≤ length xs → IsLocated design xs ss i outer deepest →
    IsLocated design (xs ++ ys) (ss ++ us) i outer deepest
located_left design xs ys ss us i outer deepest same within it = record {
  below = it.below;
  later = it.later ++ ys;
  later_shapes = it.later_shapes ++ us;
  list_is =
      drop-append-le i xs ys within ∙ ap (λ zs. zs ++ ys) it.list_is ∙ append_assoc (down_from design (suc it.below) outer) it.later ys;
  shapes_is = drop-append-le i ss us (omega arith) ∙ ap (λ zs. zs ++ us) it.shapes_is
      ∙ append_assoc (shapes_from design (suc it.below) outer.definition) it.later_shapes us;
  deep = it.deep;
}

located_right : (design : Design) (xs ys : List Instance) (ss us : List Shape) (i j : ℕ) (outer : Instance) (deepest : ℕ) →
    length xs ≡ length ss → i ≡ length xs + j → IsLocated design ys us j outer deepest →
    IsLocated design (xs ++ ys) (ss ++ us) i outer deepest
located_right design xs ys ss us i j outer deepest same place it = record {
  below = it.below;
  later = it.later;
  later_shapes = it.later_shapes;
  list_is = ap (λ n. drop n (xs ++ ys)) place ∙ drop-append-add xs ys j ∙ it.list_is;
  shapes_is = ap (λ n. drop n (ss ++ us)) (place ∙ ap (λ n. n + j) same) ∙ drop-append-add ss us j ∙ it.shapes_is;
  deep = it.deep;
}

located_either : (design : Design) (xs ys : List Instance) (ss us : List Shape) (outer : Instance) (deepest : ℕ) → length xs ≡ length ss →
    ((i : ℕ) → slice_get xs i ≡ Some outer → IsLocated design xs ss i outer deepest) →
    ((i : ℕ) → slice_get ys i ≡ Some outer → IsLocated design ys us i outer deepest) → (i : ℕ) → slice_get (xs ++ ys) i ≡ Some outer →
    IsLocated design (xs ++ ys) (ss ++ us) i outer deepest
located_either design xs ys ss us outer deepest same first later i is =
    elim (cases_lt i (length xs)) [
      | inl h ↦ located_left design xs ys ss us i outer deepest same (omega arith) (first i (sym (slice_get-left xs ys i h) ∙ is))
      | inr h ↦ located_right design xs ys ss us i (i - length xs) outer deepest same (omega arith)
          (later (i - length xs) (sym (slice_get-right xs ys i (i - length xs) (omega arith)) ∙ is))
    ]

located_inner : (design : Design) (depth : ℕ) →
    ((instance : Instance) (i : ℕ) (outer : Instance) → slice_get (down_from design depth instance) i ≡ Some outer →
    IsLocated design (down_from design depth instance) (shapes_from design depth instance.definition) i outer
    (length instance.path + depth)) → (path : Path) (cs : List Child) (i : ℕ) (outer : Instance) →
    slice_get (flat_map (λ child. down_from design depth (inside path child)) cs) i ≡ Some outer →
    IsLocated design (flat_map (λ child. down_from design depth (inside path child)) cs)
    (flat_map (λ child. shapes_from design depth child.definition) cs) i outer (length path + suc depth)
located_inner design depth each path [] i outer is = absurd (cc)
located_inner design depth each path (child ∷ cs) i outer is =
    let deeper : length (path ++ child.name ∷ []) + depth ≡ length path + suc depth =
    let long = length-append path (child.name ∷ []) in omega arith in
    located_either design (down_from design depth (inside path child)) (flat_map (λ other. down_from design depth (inside path other)) cs)
    (shapes_from design depth child.definition) (flat_map (λ other. shapes_from design depth other.definition) cs) outer
    (length path + suc depth) (as_many design depth (inside path child))
    (λ j here.
    subst (λ n. IsLocated design (down_from design depth (inside path child)) (shapes_from design depth child.definition) j outer n) deeper
    (each (inside path child) j outer here))
    (λ j here. located_inner design depth each path cs j outer here) i is

located : (design : Design) (depth : ℕ) (instance : Instance) (i : ℕ) (outer : Instance) →
    slice_get (down_from design depth instance) i ≡ Some outer →
    IsLocated design (down_from design depth instance) (shapes_from design depth instance.definition) i outer
    (length instance.path + depth)
located design zero instance i outer is = absurd (cc)
located design (suc depth) instance zero outer is =
    let same : instance ≡ outer = cc in
    subst (λ it. IsLocated design (down_from design (suc depth) instance) (shapes_from design (suc depth) instance.definition) 0 it
    (length instance.path + suc depth)) same
    (record {
      below = depth;
      later = [];
      later_shapes = [];
      list_is = sym (append-nil (down_from design (suc depth) instance));
      shapes_is = sym (append-nil (shapes_from design (suc depth) instance.definition));
      deep = refl;
    })
located design (suc depth) instance (suc i) outer is =
    let cs = children design instance.definition in
    let it = located_inner design depth (located design depth) instance.path cs i outer is in
    record {
      below = it.below;
      later = it.later;
      later_shapes = it.later_shapes;
      list_is = it.list_is;
      shapes_is = ap (drop (suc i)) (shapes_some design depth instance.definition) ∙ it.shapes_is;
      deep = it.deep;
    }

-- ---- children, one after another

pub first_left : {X : Type 0} (xs : List X) (i : ℕ) (x : X) (rest : List X) → drop i xs ≡ x ∷ rest → slice_get xs i ≡ Some x
first_left [] zero x rest h = absurd (cc)
first_left [] (suc i) x rest h = absurd (cc)
first_left (y ∷ xs) zero x rest h = let e : y ≡ x = cc in ap Some e
first_left (y ∷ xs) (suc i) x rest h = first_left xs i x rest h

pub size_left : (shapes : List Shape) (i : ℕ) (shape : Shape) (rest : List Shape) → drop i shapes ≡ shape ∷ rest → size_at shapes i ≡ shape.size
size_left [] zero shape rest h = absurd (cc)
size_left [] (suc i) shape rest h = absurd (cc)
size_left (s ∷ shapes) zero shape rest h = let e : s ≡ shape = cc in ap (λ it. it.size) e
size_left (s ∷ shapes) (suc i) shape rest h = size_left shapes i shape rest h

pub drop_on : {X : Type 0} (xs here rest : List X) (i n : ℕ) → drop i xs ≡ here ++ rest → length here ≡ n → drop (i + n) xs ≡ rest
drop_on xs here rest i n h e = sym (drop-drop n i xs) ∙ ap (drop n) h ∙ drop_at here rest n e

module _ (design : Design) (list : List Instance) (shapes : List Shape) (path : Path) (below : ℕ) where
  children_stand : (cs : List Child) (place : ℕ) (later : List Instance) (later_shapes : List Shape) →
      drop place list ≡ flat_map (λ child. down_from design (suc below) (inside path child)) cs ++ later →
      drop place shapes ≡ flat_map (λ child. shapes_from design (suc below) child.definition) cs ++ later_shapes →
      ChildrenStand list shapes place path cs
  children_stand [] place later later_shapes h k = tt
  children_stand (child ∷ cs) place later later_shapes h k =
      let here = down_from design (suc below) (inside path child) in
      let others = flat_map (λ other. down_from design (suc below) (inside path other)) cs in
      let here_shapes = shapes_from design (suc below) child.definition in
      let other_shapes = flat_map (λ other. shapes_from design (suc below) other.definition) cs in
      let inner_shapes = flat_map (λ other. shapes_from design below other.definition) (children design child.definition) in
      let listed : drop place list ≡ here ++ (others ++ later) = h ∙ append_assoc here others later in
      let shaped : drop place shapes ≡ here_shapes ++ (other_shapes ++ later_shapes) =
      k ∙ append_assoc here_shapes other_shapes later_shapes in
      let first : drop place shapes ≡ shape_with child.definition inner_shapes ++ (other_shapes ++ later_shapes) =
      shaped ∙ ap (λ ss. ss ++ (other_shapes ++ later_shapes)) (shapes_some design below child.definition) in
      let size : size_at shapes place ≡ 1 + length inner_shapes =
      size_left shapes place (record { definition = child.definition; size = 1 + length inner_shapes })
      (inner_shapes ++ (other_shapes ++ later_shapes)) first in
      let long : length here_shapes ≡ suc (length inner_shapes) = ap length (shapes_some design below child.definition) in
      let many : length here ≡ length here_shapes = as_many design (suc below) (inside path child) in (
        first_left list place (inside path child) _ listed,
        children_stand cs (place + size_at shapes place) later later_shapes
            (drop_on list here (others ++ later) place (size_at shapes place) listed (omega arith))
            (drop_on shapes here_shapes (other_shapes ++ later_shapes) place (size_at shapes place) shaped (omega arith)),
      )

none_stand : (list : List Instance) (shapes : List Shape) (place : ℕ) (path : Path) (cs : List Child) →
    ((child : Child) → slice_get cs 0 ≡ Some child → ⊥) → ChildrenStand list shapes place path cs
none_stand list shapes place path [] none = tt
none_stand list shapes place path (child ∷ cs) none = absurd (none child refl)

-- ---- a whole design

abbrev IsWholeIn : Design → List Instance → Type 0
IsWholeIn design list =
    (i k : ℕ) (outer : Instance) (child : Child) → slice_get list i ≡ Some outer →
    slice_get (children design outer.definition) k ≡ Some child → (j : ℕ) × (slice_get list j ≡ Some (inside outer.path child))

abbrev StandIn : Design → List Instance → List Shape → Type 0
StandIn design list shapes =
    (i : ℕ) (outer : Instance) → slice_get list i ≡ Some outer →
    ChildrenStand list shapes (i + 1) outer.path (children design outer.definition)

pub next_left : {X : Type 0} (xs : List X) (i : ℕ) (x : X) (rest : List X) → drop i xs ≡ x ∷ rest → drop (i + 1) xs ≡ rest
next_left xs i x rest h = drop_on xs (x ∷ []) rest i 1 h refl

stand_below : (design : Design) (depth : ℕ) (instance : Instance) (below i : ℕ) (outer : Instance) (later : List Instance)
    (later_shapes : List Shape) → IsWholeIn design (down_from design depth instance) →
    slice_get (down_from design depth instance) i ≡ Some outer → length outer.path + suc below ≡ length instance.path + depth →
    drop (i + 1) (down_from design depth instance)
    ≡ flat_map (λ child. down_from design below (inside outer.path child)) (children design outer.definition) ++ later →
    drop (i + 1) (shapes_from design depth instance.definition)
    ≡ flat_map (λ child. shapes_from design below child.definition) (children design outer.definition) ++ later_shapes →
    ChildrenStand (down_from design depth instance) (shapes_from design depth instance.definition) (i + 1) outer.path
    (children design outer.definition)
stand_below design depth instance zero i outer later later_shapes whole is deep listed shaped =
    none_stand (down_from design depth instance) (shapes_from design depth instance.definition) (i + 1) outer.path
    (children design outer.definition)
    (λ child here.
    let found = whole i 0 outer child is here in
    let it = located design depth instance found.0 (inside outer.path child) found.1 in
    let long = length-append outer.path (child.name ∷ []) in
    let deeper = it.deep in
    absurd (omega arith))
stand_below design depth instance (suc below) i outer later later_shapes whole is deep listed shaped =
    children_stand design (down_from design depth instance) (shapes_from design depth instance.definition) outer.path below
    (children design outer.definition) (i + 1) later later_shapes listed shaped

all_stand : (design : Design) (depth : ℕ) (instance : Instance) → IsWholeIn design (down_from design depth instance) →
    StandIn design (down_from design depth instance) (shapes_from design depth instance.definition)
all_stand design depth instance whole i outer is =
    let it = located design depth instance i outer is in
    let cs = children design outer.definition in
    let inner = flat_map (λ child. down_from design it.below (inside outer.path child)) cs in
    let inner_shapes = flat_map (λ child. shapes_from design it.below child.definition) cs in
    let shaped : drop i (shapes_from design depth instance.definition) ≡ shape_with outer.definition inner_shapes ++ it.later_shapes =
    it.shapes_is ∙ ap (λ ss. ss ++ it.later_shapes) (shapes_some design it.below outer.definition) in
    stand_below design depth instance it.below i outer it.later it.later_shapes whole is it.deep
    (next_left (down_from design depth instance) i outer (inner ++ it.later) it.list_is)
    (next_left (shapes_from design depth instance.definition) i (record { definition = outer.definition; size = 1 + length inner_shapes })
    (inner_shapes ++ it.later_shapes) shaped)

-- ---- from the top

pub from_top : (design : Design) (depth : ℕ) (top : Option Module) (m : Module) → top ≡ Some m →
    flat_map (λ n. down_from design depth (record { path = []; definition = n })) (option_to_list top)
    ≡ down_from design depth (record { path = []; definition = m })
from_top design depth top m named =
    ap (λ o. flat_map (λ n. down_from design depth (record { path = []; definition = n })) (option_to_list o)) named
    ∙ append-nil (down_from design depth (record { path = []; definition = m }))

pub top_definitions : (design : Design) (depth : ℕ) (top : Option Module) (m : Module) → top ≡ Some m →
    map (λ shape. shape.definition) (shapes_from design depth m)
    ≡ map (λ instance. instance.definition) (flat_map (λ n. down_from design depth (record { path = []; definition = n })) (option_to_list top))
top_definitions design depth top m named =
    same_definitions design depth (record { path = []; definition = m })
    ∙ sym (ap (map instance_definition) (from_top design depth top m named))

pub top_stand : (design : Design) (depth : ℕ) (top : Option Module) (m : Module) → top ≡ Some m →
    IsWholeIn design (flat_map (λ n. down_from design depth (record { path = []; definition = n })) (option_to_list top)) →
    StandIn design (flat_map (λ n. down_from design depth (record { path = []; definition = n })) (option_to_list top))
    (shapes_from design depth m)
top_stand design depth top m named =
    subst (λ (list : List Instance). IsWholeIn design list → StandIn design list (shapes_from design depth m))
    (sym (from_top design depth top m named))
    (all_stand design depth (record { path = []; definition = m }))

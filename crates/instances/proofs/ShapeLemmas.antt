-- What the instances in a list stand for.
use Rattle.std.proofs.Common.{◌≡◌, ℕ, zero, suc, ◌<◌, List, [], ◌∷◌, length, refl, sym, ◌∙◌, ap, arith, Option, None, Some, slice_get, slice_index_or}
use Rattle.std.specs.Option.{option_map}
use Rattle.vlog_tree.specs.declared.design.Module.{Module}
use Rattle.instances.specs.declared.placed.Placed.{Placed}
use Rattle.instances.specs.Placing.{HasShapes, shape_at}
use Rattle.instances.specs.Shapes.{Shape, size_at}

shape_is : (modules : List Module) (list : List Placed) (shapes : List Shape) (place : ℕ) (other : Placed) →
    HasShapes modules list shapes → place < length list → shape_at modules (slice_index_or list place other) ≡ slice_get shapes place
shape_is modules [] shapes place other h within = absurd (omega arith)
shape_is modules (p ∷ list) [] place other h within = absurd (cc)
shape_is modules (p ∷ list) (s ∷ shapes) zero other h within = cc
shape_is modules (p ∷ list) (s ∷ shapes) (suc place) other h within =
    shape_is modules list shapes place other (cc) (omega arith)

defined : (o : Option Module) (mk : Module → Shape) → ((m : Module) → (mk m).definition ≡ m) →
    option_map (λ shape. shape.definition) (option_map mk o) ≡ o
defined None mk same = refl
defined (Some m) mk same = ap Some (same m)

-- the module of the instance at a place
pub definition_is : (modules : List Module) (list seen : List Placed) (shapes : List Shape) (place : ℕ) (other : Placed) → seen ≡ list →
    place < length list → HasShapes modules list shapes →
    slice_get modules (slice_index_or seen place other).module ≡ option_map (λ shape. shape.definition) (slice_get shapes place)
definition_is modules list seen shapes place other e within h =
    let placed = slice_index_or list place other in
    ap (λ xs. slice_get modules (slice_index_or xs place other).module) e
    ∙ sym (defined (slice_get modules placed.module) (λ m. record { definition = m; size = placed.size }) (λ m. refl))
    ∙ ap (option_map (λ shape. shape.definition)) (shape_is modules list shapes place other h within)

sized : (o : Option Module) (size : ℕ) (shape : Shape) →
    option_map (λ m. let made : Shape = record { definition = m; size = size } in made) o ≡ Some shape → size ≡ shape.size
sized None size shape h = absurd (cc)
sized (Some m) size shape h = cc

size_here : (modules : List Module) (list : List Placed) (shapes : List Shape) (place : ℕ) (other : Placed) → place < length list →
    HasShapes modules list shapes → (slice_index_or list place other).size ≡ size_at shapes place
size_here modules [] shapes place other within h = absurd (omega arith)
size_here modules (p ∷ list) [] place other within h = absurd (cc)
size_here modules (p ∷ list) (s ∷ shapes) zero other within h = sized (slice_get modules p.module) p.size s (cc)
size_here modules (p ∷ list) (s ∷ shapes) (suc place) other within h = size_here modules list shapes place other (omega arith) (cc)

-- the size of the instance at a place
pub size_is : (modules : List Module) (list seen : List Placed) (shapes : List Shape) (place : ℕ) (other : Placed) → seen ≡ list →
    place < length list → HasShapes modules list shapes → (slice_index_or seen place other).size ≡ size_at shapes place
size_is modules list seen shapes place other e within h =
    ap (λ xs. (slice_index_or xs place other).size) e ∙ size_here modules list shapes place other within h

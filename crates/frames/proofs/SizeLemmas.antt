-- What stands in an instance stands in the list.
use Rattle.std.proofs.Common.{◌≡◌, ℕ, zero, suc, ◌+◌, ◌<◌, ◌≤◌, List, [], ◌∷◌, ◌++◌, arith, flat_map, length, length-append}
use Rattle.vlog_tree.specs.declared.design.Design.{Design}
use Rattle.vlog_tree.specs.declared.design.Module.{Module}
use Rattle.vlog_tree.specs.Meaning.Instances.{children}
use Rattle.instances.specs.Shapes.{Shape, shapes_from, size_at}

-- no instance has more in it than stand behind it
abbrev pub Fit : List Shape → Type 0
Fit [] = Unit {0}
Fit (shape ∷ shapes) = (shape.size ≤ 1 + length shapes) × Fit shapes

pub fit_at : (shapes : List Shape) (i : ℕ) → Fit shapes → i < length shapes → i + size_at shapes i ≤ length shapes
fit_at [] i fit there = absurd (omega arith)
fit_at (shape ∷ shapes) zero fit there = let few = fit.0 in omega arith
fit_at (shape ∷ shapes) (suc i) fit there =
    let rest : i + size_at shapes i ≤ length shapes = fit_at shapes i fit.1 (omega arith) in omega arith

fit_append : (xs ys : List Shape) → Fit xs → Fit ys → Fit (xs ++ ys)
fit_append [] ys one two = two
fit_append (x ∷ xs) ys one two =
    let few : x.size ≤ 1 + length xs = one.0 in
    let all : length (xs ++ ys) ≡ length xs + length ys = length-append xs ys in
    (omega arith, fit_append xs ys one.1 two)

fit_flat : {X : Type 0} (f : X → List Shape) → ((x : X) → Fit (f x)) → (xs : List X) → Fit (flat_map f xs)
fit_flat f each [] = tt
fit_flat f each (x ∷ xs) = fit_append (f x) (flat_map f xs) (each x) (fit_flat f each xs)

-- No instance has more in it than stand behind it.
pub fit_shapes : (design : Design) (depth : ℕ) (m : Module) → Fit (shapes_from design depth m)
unfolding shapes_from
fit_shapes design zero m = tt
fit_shapes design (suc depth) m =
    ((omega arith), fit_flat (λ child. shapes_from design depth child.definition) (λ child. fit_shapes design depth child.definition) (children design m))

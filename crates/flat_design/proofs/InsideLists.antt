-- What holds of each element of a list.
use Rattle.std.specs.Prelude.{⊤, ℕ, zero, suc, List, [], ◌∷◌, ◌++◌, All, flat_map, map, replicate, reverse, slice_index_or}
use Rattle.std.specs.List.{repeat, zip}
use Rattle.std.proofs.Common.{sym, subst}
use Rattle.std.proofs.lemmas.List.Elements.{All-cons, All-nil}
use Rattle.lowering.proofs.PartLemmas.{flat-reverse}

abbrev pub Each : {X : Type 0} → (X → Type 0) → List X → Type 0
Each P [] = ⊤
Each P (x ∷ xs) = P x × Each P xs

pub all_of_each : {X : Type 0} (P : X → Type 0) (xs : List X) → Each P xs → All P xs
all_of_each P [] h = All-nil P
all_of_each P (x ∷ xs) h = All-cons P x xs h.0 (all_of_each P xs h.1)

pub each-append : {X : Type 0} (P : X → Type 0) (xs ys : List X) → Each P xs → Each P ys → Each P (xs ++ ys)
each-append P [] ys h k = k
each-append P (x ∷ xs) ys h k = (h.0, each-append P xs ys h.1 k)

-- of all that a function gives
pub each-map : {X Y : Type 0} (P : Y → Type 0) (f : X → Y) → ((x : X) → P (f x)) → (xs : List X) → Each P (map f xs)
each-map P f h [] = tt
each-map P f h (x ∷ xs) = (h x, each-map P f h xs)

pub each-through : {X Y : Type 0} (P : X → Type 0) (Q : Y → Type 0) (f : X → Y) → ((x : X) → P x → Q (f x)) → (xs : List X) → Each P xs
    → Each Q (map f xs)
each-through P Q f h [] k = tt
each-through P Q f h (x ∷ xs) k = (h x k.0, each-through P Q f h xs k.1)

pub each-flat : {X Y : Type 0} (P : Y → Type 0) (f : X → List Y) → ((x : X) → Each P (f x)) → (xs : List X) → Each P (flat_map f xs)
each-flat P f h [] = tt
each-flat P f h (x ∷ xs) = each-append P (f x) (flat_map f xs) (h x) (each-flat P f h xs)

pub each-backwards : {X Y : Type 0} (P : Y → Type 0) (f : X → List Y) (xs : List X) → Each (λ x. Each P (f x)) xs
    → Each P (flat_map f (reverse xs))
each-backwards P f [] h = tt
each-backwards P f (x ∷ xs) h =
    subst (Each P) (sym (flat-reverse f x xs))
    (each-append P (flat_map f (reverse xs)) (f x) (each-backwards P f xs h.1) h.0)

pub each-replicate : {X : Type 0} (P : X → Type 0) (count : ℕ) (x : X) → P x → Each P (replicate count x)
each-replicate P zero x h = tt
each-replicate P (suc count) x h = (h, each-replicate P count x h)

pub each-repeat : {X : Type 0} (P : X → Type 0) (count : ℕ) (xs : List X) → Each P xs → Each P (repeat count xs)
each-repeat P zero xs h = tt
each-repeat P (suc count) xs h = each-append P xs (repeat count xs) h (each-repeat P count xs h)

-- of the element at a place, or of what stands in for it
pub each-index : {X : Type 0} (P : X → Type 0) (xs : List X) (place : ℕ) (other : X) → Each P xs → P other
    → P (slice_index_or xs place other)
each-index P [] place other h k = k
each-index P (x ∷ xs) zero other h k = h.0
each-index P (x ∷ xs) (suc place) other h k = each-index P xs place other h.1 k

-- of the second of each pair
pub each-zip : {X Y : Type 0} (P : Y → Type 0) (xs : List X) (ys : List Y) → Each P ys → Each (λ (pair : X × Y). P pair.1) (zip xs ys)
each-zip P [] ys h = tt
each-zip P (x ∷ xs) [] h = tt
each-zip P (x ∷ xs) (y ∷ ys) h = (h.0, each-zip P xs ys h.1)

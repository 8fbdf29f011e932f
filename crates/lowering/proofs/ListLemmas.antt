-- Lists that are gone through from the front.
use Rattle.std.proofs.Common.{◌≡◌, ℕ, zero, suc, ◌+◌, ◌-◌, ◌<◌, ◌≤◌, List, [], ◌∷◌, ◌++◌, Some, arith, ap, drop, length, min, refl, replicate, slice_get, sym, ◌∙◌, append_assoc, length-append}
use Rattle.std.specs.List.{repeat}
use Rattle.std.proofs.lemmas.List.{drop_more}
use Rattle.std.proofs.lemmas.Option.{get_or_from_slice_get, slice_get_within}
use Rattle.flat_net.specs.declared.edge.Edge.{Edge}
use Rattle.flat_net.specs.Edges.{zero_edge}
use Rattle.lowering.specs.declared.pairs.Pairing.{Pairing}
use Rattle.lowering.specs.Lowered.{extended, lowered}
use Rattle.lowering.specs.Operators.{all_paired}

pub next_found : {X : Type 0} (xs : List X) (i : ℕ) (x : X) → slice_get xs i ≡ Some x → drop i xs ≡ x ∷ drop (i + 1) xs
next_found xs i x is = drop_more xs i x (slice_get_within xs i x is) ∙ ap (λ y. y ∷ drop (i + 1) xs) (get_or_from_slice_get xs i x x is)

zeros_less : (n : ℕ) → 0 < n → replicate n zero_edge ≡ zero_edge ∷ replicate (n - 1) zero_edge
zeros_less zero h = absurd (omega arith)
zeros_less (suc n) h = ap (λ k. zero_edge ∷ replicate k zero_edge) (omega arith)

-- One zero more, where the width is not reached.
pub extended_more : (width : ℕ) (edges : List Edge) → length edges < width → extended width (edges ++ zero_edge ∷ []) ≡ extended width edges
extended_more width edges h =
    let count : width - length (edges ++ zero_edge ∷ []) ≡ width - length edges - 1 = omega (arith, length-append edges (zero_edge ∷ [])) in
    append_assoc edges (zero_edge ∷ []) (replicate (width - length (edges ++ zero_edge ∷ [])) zero_edge)
    ∙ ap (λ k. edges ++ (zero_edge ∷ replicate k zero_edge)) count
    ∙ ap (λ zeros. edges ++ zeros) (sym (zeros_less (width - length edges) (omega arith)))

-- Once more.
pub repeat_less : (n : ℕ) (xs : List Edge) → 0 < n → repeat n xs ≡ xs ++ repeat (n - 1) xs
repeat_less zero xs h = absurd (omega arith)
repeat_less (suc n) xs h = ap (λ k. xs ++ repeat k xs) (omega arith)

none_left : (pairing : Pairing) (left right : List Edge) (next : ℕ) → min (length left) (length right) ≤ 0
    → all_paired pairing left right next ≡ lowered [] []
none_left pairing [] right next h = refl
none_left pairing (x ∷ left) [] next h = refl
none_left pairing (x ∷ left) (y ∷ right) next h = absurd (omega arith)

-- At the end of one of both nothing is left to pair.
pub none_paired : (pairing : Pairing) (left right : List Edge) (i next : ℕ) → min (length left) (length right) ≤ i
    → all_paired pairing (drop i left) (drop i right) next ≡ lowered [] []
none_paired pairing left right zero next h = none_left pairing left right next h
none_paired pairing [] right (suc i) next h = refl
none_paired pairing (x ∷ left) [] (suc i) next h = none_left pairing (drop i left) [] next (omega arith)
none_paired pairing (x ∷ left) (y ∷ right) (suc i) next h = none_paired pairing left right i next (omega arith)

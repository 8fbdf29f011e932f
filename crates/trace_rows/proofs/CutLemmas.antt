-- Lemmas on a trace without one of its cycles.
use Rattle.std.proofs.Common.{◌≡◌, ℕ, ◌+◌, ◌-◌, ◌<◌, ◌≤◌, zero, suc, List, [], ◌∷◌, Bool, length, take, drop, arith, refl, ap, add-one}
use Rattle.std.specs.List.{All}
use Rattle.std.proofs.lemmas.List.Edits.{length-remove}
use Rattle.std.proofs.lemmas.List.Elements.{All-append, All-drop, All-take}
use Rattle.trace_rows.specs.Cut.{cut}

-- There is one row less.
pub length-cut : (rows : List (List Bool)) (i : ℕ) → i < length rows → length (cut rows i) ≡ length rows - 1
length-cut rows i within = omega (arith, length-remove rows i within)

-- What each row meets, each that is left meets.
pub All-cut : (P : List Bool → Type 0) (rows : List (List Bool)) (i : ℕ) → All P rows → All P (cut rows i)
All-cut P rows i all =
    All-append P (take i rows) (drop (suc i) rows) (All-take P i rows all) (All-drop P (suc i) rows all)

-- The rows up to the place are those of the whole.
pub take-cut_below : (n : ℕ) (rows : List (List Bool)) (i : ℕ) → n ≤ i → take n (cut rows i) ≡ take n rows
take-cut_below zero rows i le = refl
take-cut_below (suc n) [] zero le = absurd (omega arith)
take-cut_below (suc n) [] (suc i) le = refl
take-cut_below (suc n) (row ∷ rows) zero le = absurd (omega arith)
take-cut_below (suc n) (row ∷ rows) (suc i) le = ap (λ rest. row ∷ rest) (take-cut_below n rows i (omega arith))

take-cut_suc : (n : ℕ) (rows : List (List Bool)) (i : ℕ) → i ≤ n → take n (cut rows i) ≡ cut (take (suc n) rows) i
take-cut_suc zero [] zero le = refl
take-cut_suc (suc n) [] zero le = refl
take-cut_suc zero rows (suc i) le = absurd (omega arith)
take-cut_suc (suc n) [] (suc i) le = refl
take-cut_suc n (row ∷ rows) zero le = refl
take-cut_suc (suc n) (row ∷ rows) (suc i) le = ap (λ rest. row ∷ rest) (take-cut_suc n rows i (omega arith))

-- The rows past the place are those of one row more, without it.
pub take-cut_above : (n : ℕ) (rows : List (List Bool)) (i : ℕ) → i ≤ n → take n (cut rows i) ≡ cut (take (n + 1) rows) i
take-cut_above n rows i le = rw add-one (take-cut_suc n rows i le)

-- Where the place is past the end, nothing is cut.
pub cut_past : (rows : List (List Bool)) (i : ℕ) → length rows ≤ i → cut rows i ≡ rows
cut_past [] zero le = refl
cut_past [] (suc i) le = refl
cut_past (row ∷ rows) zero le = absurd (omega arith)
cut_past (row ∷ rows) (suc i) le = ap (λ rest. row ∷ rest) (cut_past rows i (omega arith))

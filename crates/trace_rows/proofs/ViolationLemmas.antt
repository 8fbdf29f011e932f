-- Lemmas on the violations of runs.
use Rattle.std.proofs.Common.{◌≡◌, ◌≢◌, ◌↔◌, ℕ, ◌+◌, ◌-◌, ◌<◌, zero, suc, List, [], ◌∷◌, Bool, true, false, Some, None, length, position, slice_get, take, get_or, arith, refl, ap, sym, ◌∙◌}
use Rattle.std.specs.List.{position_from}
use Rattle.std.proofs.lemmas.Bool.{true≢false}
use Rattle.std.proofs.lemmas.Iterator.Adapters.{position_from-zero}
use Rattle.std.proofs.lemmas.List.{length-take-le}
use Rattle.std.proofs.lemmas.List.Quantifiers.{position-Some}
use Rattle.std.proofs.lemmas.Option.{get_or_from_slice_get, none-some, same_Some, slice_get-get_or, slice_get_within}
use Rattle.trace_rows.specs.Machine.{Machine}
use Rattle.trace_rows.specs.Run.{IsFirstAtLast, Violates, ViolatesAt, checks, checks_from, state_after}

-- ---- the checker's bits

checks_from-length : (machine : Machine) (state : List Bool) (rows : List (List Bool))
    → length (checks_from machine state rows) ≡ length rows
checks_from-length machine state [] = refl
checks_from-length machine state (row ∷ rows) = ap suc (checks_from-length machine (machine.next state row) rows)

-- There is one bit for each row.
pub checks-length : (machine : Machine) (rows : List (List Bool)) → length (checks machine rows) ≡ length rows
checks-length machine rows = checks_from-length machine machine.start rows

checks_from_cut : (machine : Machine) (state : List Bool) (n : ℕ) (rows : List (List Bool))
    → checks_from machine state (take n rows) ≡ take n (checks_from machine state rows)
checks_from_cut machine state zero rows = refl
checks_from_cut machine state (suc n) [] = refl
checks_from_cut machine state (suc n) (row ∷ rows) =
    ap (λ bits. machine.bad state row ∷ bits) (checks_from_cut machine (machine.next state row) n rows)

-- The first rows have the first bits.
pub checks_cut : (machine : Machine) (n : ℕ) (rows : List (List Bool))
    → checks machine (take n rows) ≡ take n (checks machine rows)
checks_cut machine n rows = checks_from_cut machine machine.start n rows

entry_from : (machine : Machine) (state : List Bool) (rows : List (List Bool)) (cycle : ℕ) (row : List Bool)
    → slice_get rows cycle ≡ Some row
    → slice_get (checks_from machine state rows) cycle
    ≡ Some (machine.bad (state_after machine state (take cycle rows)) row)
entry_from machine state [] cycle row at = absurd (none-some row at)
entry_from machine state (first ∷ rows) zero row at = ap (λ r. Some (machine.bad state r)) (same_Some first row at)
entry_from machine state (first ∷ rows) (suc cycle) row at =
    entry_from machine (machine.next state first) rows cycle row at

row_from : (machine : Machine) (state : List Bool) (rows : List (List Bool)) (cycle : ℕ) (bit : Bool)
    → slice_get (checks_from machine state rows) cycle ≡ Some bit
    → (row : List Bool) × (slice_get rows cycle ≡ Some row)
    × (machine.bad (state_after machine state (take cycle rows)) row ≡ bit)
row_from machine state [] cycle bit at = absurd (none-some bit at)
row_from machine state (first ∷ rows) zero bit at = (first, refl, same_Some (machine.bad state first) bit at)
row_from machine state (first ∷ rows) (suc cycle) bit at = row_from machine (machine.next state first) rows cycle bit at

-- A cycle violates where the checker's bit is 1.
pub violates_entry : (machine : Machine) (rows : List (List Bool)) (cycle : ℕ)
    → (slice_get (checks machine rows) cycle ≡ Some true) ↔ ViolatesAt machine rows cycle
violates_entry machine rows cycle = (
  λ at. row_from machine machine.start rows cycle true at,
  λ v. entry_from machine machine.start rows cycle v.0 v.1 ∙ ap Some v.2,
)

-- ---- the first of them

entry_cut : (n : ℕ) (bits : List Bool) (k : ℕ) → k < n → slice_get (take n bits) k ≡ slice_get bits k
entry_cut zero bits k lt = absurd (omega arith)
entry_cut (suc n) [] k lt = refl
entry_cut (suc n) (bit ∷ bits) zero lt = refl
entry_cut (suc n) (bit ∷ bits) (suc k) lt = entry_cut n bits k (omega arith)

-- the bit at the first place of a 1
first_entry : (bits : List Bool) (cycle : ℕ) → position (λ bit. bit) bits ≡ Some cycle
    → slice_get bits cycle ≡ Some true
first_entry bits cycle e =
    let first = position-Some (λ bit. bit) bits cycle false e in
    slice_get-get_or bits cycle false first.0 ∙ ap Some first.1

-- and at the places before it
earlier_entry : (bits : List Bool) (cycle k : ℕ) → position (λ bit. bit) bits ≡ Some cycle → k < cycle
    → slice_get bits k ≡ Some true → ⊥
earlier_entry bits cycle k e lt at =
    let first = position-Some (λ bit. bit) bits cycle false e in
    true≢false (sym (get_or_from_slice_get bits k true false at) ∙ first.2 k lt)

-- The first 1 among the checker's bits is a violation.
pub first_violates : (machine : Machine) (rows : List (List Bool)) (cycle : ℕ)
    → position (λ bit. bit) (checks machine rows) ≡ Some cycle → ViolatesAt machine rows cycle
first_violates machine rows cycle e = (violates_entry machine rows cycle).0 (first_entry (checks machine rows) cycle e)

cut_entry : (machine : Machine) (rows : List (List Bool)) (n k : ℕ) → k < n
    → slice_get (checks machine (take n rows)) k ≡ slice_get (checks machine rows) k
cut_entry machine rows n k lt =
    ap (λ bits. slice_get bits k) (checks_cut machine n rows) ∙ entry_cut n (checks machine rows) k lt

-- The rows up to the first 1 violate in the last cycle, and in no earlier one.
pub first_at_last : (machine : Machine) (rows : List (List Bool)) (cycle : ℕ)
    → position (λ bit. bit) (checks machine rows) ≡ Some cycle → IsFirstAtLast machine (take (cycle + 1) rows)
first_at_last machine rows cycle e =
    let at : slice_get (checks machine rows) cycle ≡ Some true = first_entry (checks machine rows) cycle e in
    let within : cycle < length rows =
    omega (arith, slice_get_within (checks machine rows) cycle true at, checks-length machine rows) in
    record {
      last = cycle;
      is_last = length-take-le (cycle + 1) rows (omega (arith, within));
      violates =
          (violates_entry machine (take (cycle + 1) rows) cycle).0
          (cut_entry machine rows (cycle + 1) cycle (omega arith) ∙ at);
      first =
          λ k lt v. earlier_entry (checks machine rows) cycle k e lt
          (sym (cut_entry machine rows (cycle + 1) k (omega (arith, lt)))
          ∙ (violates_entry machine (take (cycle + 1) rows) k).1 v);
    }

no_entry : (bits : List Bool) (i k : ℕ) → position_from (λ bit. bit) i bits ≡ None → slice_get bits k ≡ Some true → ⊥
no_entry [] i k e at = none-some true at
no_entry (true ∷ bits) i k e at = none-some i (sym e)
no_entry (false ∷ bits) i zero e at = true≢false (sym (same_Some false true at))
no_entry (false ∷ bits) i (suc k) e at = no_entry bits (i + 1) k e at

-- Where no bit is 1, no cycle violates.
pub no_violation : (machine : Machine) (rows : List (List Bool)) → position (λ bit. bit) (checks machine rows) ≡ None
    → Violates machine rows → ⊥
no_violation machine rows e (cycle, v) =
    no_entry (checks machine rows) 0 cycle (sym (position_from-zero (λ bit. bit) (checks machine rows)) ∙ e)
    ((violates_entry machine rows cycle).1 v)

-- Where some cycle violates, some bit is 1.
pub some_violation : (machine : Machine) (rows : List (List Bool)) → Violates machine rows
    → position (λ bit. bit) (checks machine rows) ≢ None
some_violation machine rows v e = no_violation machine rows e v

position_at : (bits : List Bool) (i k : ℕ) → get_or bits k false ≡ true
    → ((j : ℕ) → j < k → get_or bits j false ≡ false) → position_from (λ bit. bit) i bits ≡ Some (i + k)
position_at [] i k at before = absurd (true≢false (sym at))
position_at (true ∷ bits) i zero at before = ap Some (let e : i ≡ i + 0 = omega arith in e)
position_at (false ∷ bits) i zero at before = absurd (true≢false (sym at))
position_at (true ∷ bits) i (suc k) at before = absurd (true≢false (before 0 (omega arith)))
position_at (false ∷ bits) i (suc k) at before =
    position_at bits (i + 1) k at (λ j lt. before (suc j) (omega arith))
    ∙ ap Some (let e : i + 1 + k ≡ i + suc k = omega arith in e)

not_true : (bit : Bool) → (bit ≡ true → ⊥) → bit ≡ false
not_true true other = absurd (other refl)
not_true false other = refl

-- Where a trace violates first at its last cycle, the first 1 is the last bit.
pub last_is_first : (machine : Machine) (rows : List (List Bool)) → IsFirstAtLast machine rows
    → position (λ bit. bit) (checks machine rows) ≡ Some (length rows - 1)
last_is_first machine rows first =
    let bits : List Bool = checks machine rows in
    let at : get_or bits first.last false ≡ true =
    get_or_from_slice_get bits first.last true false ((violates_entry machine rows first.last).1 first.violates) in
    let long : length bits ≡ length rows = checks-length machine rows in
    let before : (j : ℕ) → j < first.last → get_or bits j false ≡ false = λ j lt.
    not_true (get_or bits j false)
    (λ e. first.first j lt
    ((violates_entry machine rows j).0
    (slice_get-get_or bits j false (let last = first.is_last in omega arith) ∙ ap Some e))) in
    let last : 0 + first.last ≡ length rows - 1 = let is = first.is_last in omega arith in
    position_from-zero (λ bit. bit) bits ∙ position_at bits 0 first.last at before ∙ ap Some last

-- Where runs violate, by their front and their rest.
use Rattle.std.specs.Prelude.{◌≡◌, ℕ, zero, suc, ◌+◌, ◌-◌, ◌<◌, ◌≤◌, ◌||◌, List, [], ◌∷◌, ◌++◌, Bool, true, false, Some, drop, length, refl, slice_get, take}
use Rattle.std.specs.List.{list_any}
use Rattle.std.proofs.Common.{add-one, ap, arith, inl, inr, sym, ◌∙◌}
use lib.Dec.{ltb}
use Rattle.std.proofs.lemmas.Bool.{cases_eq, cases_lt, false_from_ne_true, le-ltb, lt-ltb, true≢false}
use Rattle.std.proofs.lemmas.List.{drop_more, length-take}
use Rattle.std.proofs.lemmas.List.Folds.{list_any-append}
use Rattle.std.proofs.lemmas.Option.{get_or_from_slice_get, none-some, same_Some, slice_get_within}
use Rattle.trace_rows.specs.Cut.{cut}
use Rattle.trace_rows.specs.Machine.{Machine}
use Rattle.trace_rows.specs.Run.{Violates, checks, checks_from, state_after, state_at}
use Rattle.trace_rows.proofs.ViolationLemmas.{checks-length, checks_cut, violates_entry}
use Rattle.cycle_cut.specs.Violations.{IsViolatedFrom, IsViolatedUpTo, violates_from}

-- ---- a 1 among bits

abbrev any_of : List Bool → Bool
any_of bits = list_any (λ bit. bit) bits

one_of : (bits : List Bool) → any_of bits ≡ true → (k : ℕ) × (slice_get bits k ≡ Some true)
one_of [] is = absurd (true≢false (sym is))
one_of (true ∷ bits) is = (0, refl)
one_of (false ∷ bits) is = let later = one_of bits is in (suc later.0, later.1)

any_by : (bits : List Bool) (k : ℕ) → slice_get bits k ≡ Some true → any_of bits ≡ true
any_by [] k at = absurd (none-some true at)
any_by (true ∷ bits) k at = refl
any_by (false ∷ bits) zero at = absurd (true≢false (sym (same_Some false true at)))
any_by (false ∷ bits) (suc k) at = any_by bits k at

get_drop : (bits : List Bool) (n k place : ℕ) → n + k ≡ place → slice_get (drop n bits) k ≡ slice_get bits place
get_drop bits zero k place sum = let same : k ≡ place = omega arith in ap (slice_get bits) same
get_drop [] (suc n) k place sum = refl
get_drop (bit ∷ bits) (suc n) k zero sum = absurd (omega arith)
get_drop (bit ∷ bits) (suc n) k (suc place) sum = get_drop bits n k place (omega arith)

get_take : (bits : List Bool) (n k : ℕ) → k < n → slice_get (take n bits) k ≡ slice_get bits k
get_take bits zero k below = absurd (omega arith)
get_take [] (suc n) k below = refl
get_take (bit ∷ bits) (suc n) zero below = refl
get_take (bit ∷ bits) (suc n) (suc k) below = get_take bits n k (omega arith)

-- ---- the run's own violations

pub violated : (machine : Machine) (rows : List (List Bool)) → violates_from machine machine.start rows ≡ true
    → Violates machine rows
unfolding violates_from
violated machine rows is =
    let one = one_of (checks machine rows) is in
    (one.0, (violates_entry machine rows one.0).0 one.1)

pub violates : (machine : Machine) (rows : List (List Bool)) → Violates machine rows
    → violates_from machine machine.start rows ≡ true
unfolding violates_from
violates machine rows (cycle, v) = any_by (checks machine rows) cycle ((violates_entry machine rows cycle).1 v)

-- ---- the front of a run

front_at : (machine : Machine) (rows : List (List Bool)) (n cycle : ℕ) → cycle < n
    → slice_get (checks machine (take n rows)) cycle ≡ slice_get (checks machine rows) cycle
front_at machine rows n cycle below =
    ap (λ bits. slice_get bits cycle) (checks_cut machine n rows) ∙ get_take (checks machine rows) n cycle below

pub front_violates : (machine : Machine) (rows : List (List Bool)) (first n : ℕ) → IsViolatedFrom machine rows first
    → first < n → n ≤ length rows → violates_from machine machine.start (take n rows) ≡ true
unfolding violates_from
front_violates machine rows first n starts below within =
    any_by (checks machine (take n rows)) first (front_at machine rows n first below ∙ starts.some (omega arith))

pub front_calm : (machine : Machine) (rows : List (List Bool)) (first n : ℕ) → IsViolatedFrom machine rows first
    → n ≤ first → violates_from machine machine.start (take n rows) ≡ false
unfolding violates_from
front_calm machine rows first n starts before =
    false_from_ne_true (any_of (checks machine (take n rows))) (λ is.
    let one = one_of (checks machine (take n rows)) is in
    let inside : one.0 < n =
    omega (arith, slice_get_within (checks machine (take n rows)) one.0 true one.1, checks-length machine (take n rows), length-take n rows) in
    starts.none one.0 (omega (arith, inside, before)) (sym (front_at machine rows n one.0 inside) ∙ one.1))

-- ---- the rest of a run

checks_drop : (machine : Machine) (state : List Bool) (n : ℕ) (rows : List (List Bool))
    → drop n (checks_from machine state rows) ≡ checks_from machine (state_after machine state (take n rows)) (drop n rows)
checks_drop machine state zero rows = refl
checks_drop machine state (suc n) [] = refl
checks_drop machine state (suc n) (row ∷ rows) = checks_drop machine (machine.next state row) n rows

rest_is : (machine : Machine) (rows : List (List Bool)) (n : ℕ)
    → violates_from machine (state_at machine rows n) (drop n rows) ≡ any_of (drop n (checks machine rows))
unfolding violates_from
rest_is machine rows n = ap any_of (sym (checks_drop machine machine.start n rows))

-- From a state of the run itself the rows left violate where the run does.
pub rest_violates : (machine : Machine) (rows : List (List Bool)) (end n : ℕ) → IsViolatedUpTo machine rows end
    → violates_from machine (state_at machine rows n) (drop n rows) ≡ ltb n end
rest_violates machine rows end n ends =
    elim (cases_lt n end) [
      | inl below ↦
          rest_is machine rows n
          ∙ any_by (drop n (checks machine rows)) (end - 1 - n)
          (get_drop (checks machine rows) n (end - 1 - n) (end - 1) (omega arith) ∙ ends.some (omega arith))
          ∙ sym (lt-ltb n end below)
      | inr past ↦
          false_from_ne_true (violates_from machine (state_at machine rows n) (drop n rows)) (λ is.
          let one = one_of (drop n (checks machine rows)) (sym (rest_is machine rows n) ∙ is) in
          ends.none (n + one.0) (omega (arith, past)) (sym (get_drop (checks machine rows) n one.0 (n + one.0) refl) ∙ one.1))
          ∙ sym (le-ltb n end past)
    ]

-- ---- without a cycle

checks_append : (machine : Machine) (state : List Bool) (xs ys : List (List Bool))
    → checks_from machine state (xs ++ ys)
    ≡ checks_from machine state xs ++ checks_from machine (state_after machine state xs) ys
checks_append machine state [] ys = refl
checks_append machine state (row ∷ xs) ys =
    ap (λ bits. machine.bad state row ∷ bits) (checks_append machine (machine.next state row) xs ys)

-- A run without a cycle violates before it, or behind it from the state that the cycle began in.
pub without : (machine : Machine) (rows : List (List Bool)) (cycle : ℕ)
    → violates_from machine machine.start (cut rows cycle)
    ≡ (violates_from machine machine.start (take cycle rows)
    || violates_from machine (state_at machine rows cycle) (drop (cycle + 1) rows))
unfolding violates_from
without machine rows cycle =
    ap (λ n. any_of (checks_from machine machine.start (take cycle rows ++ drop n rows))) (sym (add-one cycle))
    ∙ ap any_of (checks_append machine machine.start (take cycle rows) (drop (cycle + 1) rows))
    ∙ list_any-append (λ bit. bit) (checks machine (take cycle rows))
    (checks_from machine (state_at machine rows cycle) (drop (cycle + 1) rows))

-- with what is known of the front
pub without_early : (machine : Machine) (rows : List (List Bool)) (first cycle : ℕ) → IsViolatedFrom machine rows first
    → first < cycle → cycle < length rows → true ≡ violates_from machine machine.start (cut rows cycle)
without_early machine rows first cycle starts below within =
    sym (without machine rows cycle
    ∙ ap (λ b. b || violates_from machine (state_at machine rows cycle) (drop (cycle + 1) rows))
    (front_violates machine rows first cycle starts below (omega arith)))

pub without_late : (machine : Machine) (rows : List (List Bool)) (first cycle : ℕ) → IsViolatedFrom machine rows first
    → cycle ≤ first → (answer : Bool)
    → violates_from machine (state_at machine rows cycle) (drop (cycle + 1) rows) ≡ answer
    → answer ≡ violates_from machine machine.start (cut rows cycle)
without_late machine rows first cycle starts before answer is =
    sym (without machine rows cycle
    ∙ ap (λ b. b || violates_from machine (state_at machine rows cycle) (drop (cycle + 1) rows))
    (front_calm machine rows first cycle starts before)
    ∙ is)

-- ---- cycle by cycle

pub none_left : (machine : Machine) (state : List Bool) (rows : List (List Bool)) (n : ℕ) → length rows ≤ n
    → violates_from machine state (drop n rows) ≡ false
unfolding violates_from
none_left machine state [] zero past = refl
none_left machine state [] (suc n) past = refl
none_left machine state (row ∷ rows) zero past = absurd (omega arith)
none_left machine state (row ∷ rows) (suc n) past = none_left machine state rows n (omega arith)

module _ (machine : Machine) (rows : List (List Bool)) (place : ℕ) (row : List Bool) (at : slice_get rows place ≡ Some row) where
  here : drop place rows ≡ row ∷ drop (place + 1) rows
  here =
      drop_more rows place [] (slice_get_within rows place row at)
      ∙ ap (λ (one : List Bool). one ∷ drop (place + 1) rows) (get_or_from_slice_get rows place row [] at)

  onwards : (state : List Bool) → violates_from machine state (drop place rows)
      ≡ (machine.bad state row || violates_from machine (machine.next state row) (drop (place + 1) rows))
  unfolding violates_from
  onwards state = ap (λ others. any_of (checks_from machine state others)) here

  -- The cycle violates.
  pub turn_ends : (state : List Bool) → machine.bad state row ≡ true → violates_from machine state (drop place rows) ≡ true
  turn_ends state is =
      onwards state ∙ ap (λ b. b || violates_from machine (machine.next state row) (drop (place + 1) rows)) is

  -- The cycle does not violate.
  pub turn_goes_on : (state next : List Bool) → next ≡ machine.next state row → machine.bad state row ≡ false
      → violates_from machine state (drop place rows) ≡ violates_from machine next (drop (place + 1) rows)
  turn_goes_on state next next_is is =
      onwards state
      ∙ ap (λ b. b || violates_from machine (machine.next state row) (drop (place + 1) rows)) is
      ∙ ap (λ one. violates_from machine one (drop (place + 1) rows)) (sym next_is)

-- The state is the run's own.
pub turn_meets : (machine : Machine) (rows : List (List Bool)) (end place : ℕ) → IsViolatedUpTo machine rows end
    → (state base : List Bool) → state ≡ base → base ≡ state_at machine rows place
    → violates_from machine state (drop place rows) ≡ ltb place end
turn_meets machine rows end place ends state base same is =
    ap (λ one. violates_from machine one (drop place rows)) (same ∙ is) ∙ rest_violates machine rows end place ends

-- ---- the checker's bit of a cycle

pub bit_at : (machine : Machine) (rows : List (List Bool)) (cycle : ℕ) (row : List Bool) → slice_get rows cycle ≡ Some row
    → slice_get (checks machine rows) cycle ≡ Some (machine.bad (state_at machine rows cycle) row)
bit_at machine rows cycle row at =
    sym (get_drop (checks machine rows) cycle 0 cycle (omega arith))
    ∙ ap (λ bits. slice_get bits 0) (checks_drop machine machine.start cycle rows)
    ∙ ap (λ left. slice_get (checks_from machine (state_at machine rows cycle) left) 0) (here machine rows cycle row at)

pub not_one : (bits : List Bool) (cycle : ℕ) (bit : Bool) → slice_get bits cycle ≡ Some bit → bit ≡ false
    → slice_get bits cycle ≡ Some true → ⊥
not_one bits cycle bit at is one = true≢false (same_Some true bit (sym one ∙ at) ∙ is)

pub is_one : (bits : List Bool) (cycle : ℕ) (bit : Bool) → slice_get bits cycle ≡ Some bit → bit ≡ true
    → slice_get bits cycle ≡ Some true
is_one bits cycle bit at is = at ∙ ap Some is

-- There is no bit past the rows.
pub none_past : (machine : Machine) (rows : List (List Bool)) (cycle : ℕ) → length rows ≤ cycle
    → slice_get (checks machine rows) cycle ≡ Some true → ⊥
none_past machine rows cycle past one =
    absurd (omega (arith, past, slice_get_within (checks machine rows) cycle true one, checks-length machine rows))

-- one cycle more that was looked at, from the end
pub none_before : (machine : Machine) (rows : List (List Bool)) (end : ℕ) (bit : Bool) → 0 < end
    → slice_get (checks machine rows) (end - 1) ≡ Some bit → bit ≡ false
    → ((cycle : ℕ) → end ≤ cycle → slice_get (checks machine rows) cycle ≡ Some true → ⊥)
    → (cycle : ℕ) → end - 1 ≤ cycle → slice_get (checks machine rows) cycle ≡ Some true → ⊥
none_before machine rows end bit some at is none cycle past one =
    elim (cases_eq cycle (end - 1)) [
      | inl same ↦ not_one (checks machine rows) (end - 1) bit at is (sym (ap (slice_get (checks machine rows)) same) ∙ one)
      | inr other ↦ none cycle (omega arith) one
    ]

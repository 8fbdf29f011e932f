-- Runs, cycle by cycle.
use Rattle.std.specs.Prelude.{◌≡◌, ◌+◌, ℕ, zero, suc, List, [], ◌∷◌, ◌++◌, Bool, Option, true, false, Some, cond, drop, fold, map, position, refl, replicate, slice_get, take}
use Rattle.std.specs.List.{position_from, range_with_len}
use Rattle.std.proofs.Common.{add-one, ap, arith, sym, ◌∙◌}
use Rattle.std.proofs.lemmas.Iterator.Adapters.{position_from-zero}
use Rattle.std.proofs.lemmas.List.{drop_more}
use Rattle.std.proofs.lemmas.List.FromFn.{map-range_with_len_more}
use Rattle.std.proofs.lemmas.Option.{get_or_from_slice_get, none-some, same_Some, slice_get_within}
use Rattle.trace_rows.specs.Machine.{Machine}
use Rattle.trace_rows.specs.Run.{checks, checks_from, state_after, state_at}

-- ---- the same row again

folded_more : (f : List Bool → List Bool → List Bool) (state row : List Bool) (count : ℕ)
    → fold f state (replicate (suc count) row) ≡ f (fold f state (replicate count row)) row
folded_more f state row zero = refl
folded_more f state row (suc count) = folded_more f (f state row) row count

pub again : (f : List Bool → List Bool → List Bool) (state row : List Bool) (count : ℕ)
    → fold f state (replicate (count + 1) row) ≡ f (fold f state (replicate count row)) row
again f state row count = ap (λ n. fold f state (replicate n row)) (add-one count) ∙ folded_more f state row count

-- ---- the state in which the next cycle begins

after_more : (machine : Machine) (state : List Bool) (rows : List (List Bool)) (cycle : ℕ) (row : List Bool)
    → slice_get rows cycle ≡ Some row
    → state_after machine state (take (suc cycle) rows) ≡ machine.next (state_after machine state (take cycle rows)) row
after_more machine state [] cycle row at = absurd (none-some row at)
after_more machine state (first ∷ rows) zero row at = ap (machine.next state) (same_Some first row at)
after_more machine state (first ∷ rows) (suc cycle) row at = after_more machine (machine.next state first) rows cycle row at

pub state_more : (machine : Machine) (rows : List (List Bool)) (cycle : ℕ) (row : List Bool) → slice_get rows cycle ≡ Some row
    → state_at machine rows (cycle + 1) ≡ machine.next (state_at machine rows cycle) row
state_more machine rows cycle row at =
    ap (λ n. state_after machine machine.start (take n rows)) (add-one cycle) ∙ after_more machine machine.start rows cycle row at

pub states_more : (machine : Machine) (rows : List (List Bool)) (cycle : ℕ) (states : List (List Bool)) (state : List Bool)
    → states ≡ map (state_at machine rows) (range_with_len 0 (cycle + 1)) → state ≡ state_at machine rows (cycle + 1)
    → states ++ state ∷ [] ≡ map (state_at machine rows) (range_with_len 0 (cycle + 1 + 1))
states_more machine rows cycle states state before is =
    ap (λ front. front ++ state ∷ []) before
    ∙ ap (λ one. map (state_at machine rows) (range_with_len 0 (cycle + 1)) ++ one ∷ []) is
    ∙ sym (map-range_with_len_more (state_at machine rows) 0 (cycle + 1) (cycle + 1) (omega arith))

-- ---- the first violation

abbrev is_one : Bool → Bool
is_one bit = bit

first_from : (machine : Machine) (rows : List (List Bool))
    → position (λ bit. bit) (checks machine rows) ≡ position_from is_one 0 (checks machine rows)
first_from machine rows = position_from-zero is_one (checks machine rows)

-- what is left of the checker's bits
abbrev pub Left : Machine → List (List Bool) → ℕ → List Bool → Type 0
Left machine rows cycle state =
    position (λ bit. bit) (checks machine rows) ≡ position_from is_one cycle (checks_from machine state (drop cycle rows))

pub first_left : (machine : Machine) (rows : List (List Bool)) (state : List Bool) → state ≡ machine.start → Left machine rows 0 state
first_left machine rows state is = first_from machine rows ∙ ap (λ one. position_from is_one 0 (checks_from machine one rows)) (sym is)

module _ (machine : Machine) (rows : List (List Bool)) (cycle : ℕ) (state row : List Bool) (at : slice_get rows cycle ≡ Some row)
    (left : Left machine rows cycle state) (bit : Bool) (bit_is : bit ≡ machine.bad state row) where
  here : drop cycle rows ≡ row ∷ drop (cycle + 1) rows
  here =
      drop_more rows cycle [] (slice_get_within rows cycle row at)
      ∙ ap (λ (one : List Bool). one ∷ drop (cycle + 1) rows) (get_or_from_slice_get rows cycle row [] at)

  -- the first one among the cycles behind
  abbrev behind : Option ℕ
  behind = position_from is_one (cycle + 1) (checks_from machine (machine.next state row) (drop (cycle + 1) rows))

  split : position (λ bit. bit) (checks machine rows) ≡ cond bit (Some cycle) behind
  split =
      left ∙ ap (λ others. position_from is_one cycle (checks_from machine state others)) here
      ∙ ap (λ b. cond b (Some cycle) behind) (sym bit_is)

  pub found : bit ≡ true → position (λ bit. bit) (checks machine rows) ≡ Some cycle
  found is = split ∙ ap (λ b. cond b (Some cycle) behind) is

  pub left_more : bit ≡ false → (after : List Bool) → after ≡ machine.next state row → Left machine rows (cycle + 1) after
  left_more is after after_is =
      split ∙ ap (λ b. cond b (Some cycle) behind) is
      ∙ ap (λ one. position_from is_one (cycle + 1) (checks_from machine one (drop (cycle + 1) rows))) (sym after_is)

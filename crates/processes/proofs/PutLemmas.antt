-- Edges that are written at the numbers of bits are the edges of these bits.
use Rattle.std.proofs.Common.{◌≡◌, ◌<◌, ◌+◌, ℕ, zero, suc, List, [], ◌∷◌, ◌++◌, Bool, true, false, ◌||◌, cond, Option, None, Some, refl, ap, sym, ◌∙◌, arith, append_assoc, filter, get_or, length, length-append, map, reverse, subst}
use Rattle.std.proofs.lemmas.Iterator.Adapters.{position_from-zero}
use Rattle.std.proofs.lemmas.List.{get_or-map, reverse-reverse, set_at}
use Rattle.std.proofs.lemmas.List.Quantifiers.{position-Some}
use Rattle.std.specs.List.{list_any, position, position_from}
use Rattle.flat_net.specs.declared.edge.Edge.{Edge}
use Rattle.flat_net.specs.Edges.{zero_edge}
use Rattle.numbering.specs.Bits.{register_bits}
use Rattle.numbering.proofs.BitLemmas.{first_at, or_left_false, or_right_false}
use Rattle.targets.specs.Numbers as targets
use Rattle.processes.specs.Numbers.{edges_at, number_among, numbers_down, numbers_of, ordered_numbers, places_from, put, written, written_from}
use Rattle.processes.specs.Statements.{Registers, ordered, replaced}
use Rattle.processes.proofs.ApartLemmas.{Apart, bit_itself, bits_same, none_before, registers_apart, same_back}
use Rattle.processes.proofs.NumberLemmas.{some_at}
use Rattle.vlog_tree.specs.declared.design.Module.{Module}
use Rattle.vlog_tree.specs.Meaning.Lefts.{Bit, number_in, same_bit}

-- ---- one edge

abbrev with_edge : Bit → Edge → Registers → Registers
with_edge bit edge before other = cond (same_bit other bit) edge (before other)

-- where the bit is none of these
unchanged : (bit : Bit) (edge : Edge) (before : Registers) (bits : List Bit) → list_any (same_bit bit) bits ≡ false
    → map before bits ≡ map (with_edge bit edge before) bits
unchanged bit edge before [] none = refl
unchanged bit edge before (other ∷ bits) none =
    let differs : same_bit other bit ≡ false = same_back other bit ∙ or_left_false (same_bit bit other) (list_any (same_bit bit) bits) none in
    let rest : map before bits ≡ map (with_edge bit edge before) bits =
    unchanged bit edge before bits (or_right_false (same_bit bit other) (list_any (same_bit bit) bits) none) in
    let one : before other ≡ with_edge bit edge before other = sym (ap (λ b. cond b edge (before other)) differs) in
    λ j. one j ∷ rest j

put_from : (bit : Bit) (edge : Edge) (before : Registers) (front : List Edge) (bits : List Bit) (start : ℕ) → start ≡ length front → Apart bits
    → put (position_from (same_bit bit) start bits) edge (front ++ map before bits) ≡ front ++ map (with_edge bit edge before) bits
put_from bit edge before front [] start is apart = refl
put_from bit edge before front (other ∷ bits) start is (none, apart) =
    by (same_bit bit other) refl (put_from bit edge before (front ++ before other ∷ []) bits (start + 1) (omega (arith, is, length-append front (before other ∷ []))) apart)
  where
    by : (b : Bool) → same_bit bit other ≡ b
        → put (position_from (same_bit bit) (start + 1) bits) edge ((front ++ before other ∷ []) ++ map before bits)
        ≡ (front ++ before other ∷ []) ++ map (with_edge bit edge before) bits
        → put (cond b (Some start) (position_from (same_bit bit) (start + 1) bits)) edge (front ++ before other ∷ map before bits)
        ≡ front ++ with_edge bit edge before other ∷ map (with_edge bit edge before) bits
    by true same ih =
        let one : edge ≡ with_edge bit edge before other = sym (ap (λ b. cond b edge (before other)) (same_back other bit ∙ same)) in
        let none_here : list_any (same_bit bit) bits ≡ false = ap (λ bit. list_any (same_bit bit) bits) (bits_same bit other same) ∙ none in
        let rest : map before bits ≡ map (with_edge bit edge before) bits = unchanged bit edge before bits none_here in
        set_at front (before other) (map before bits) edge start (sym is)
        ∙ (λ j. front ++ one j ∷ rest j)
    by false differs ih =
        let one : before other ≡ with_edge bit edge before other = sym (ap (λ b. cond b edge (before other)) (same_back other bit ∙ differs)) in
        ap (put (position_from (same_bit bit) (start + 1) bits) edge) (sym (append_assoc front (before other ∷ []) (map before bits)))
        ∙ ih
        ∙ append_assoc front (before other ∷ []) (map (with_edge bit edge before) bits)
        ∙ (λ j. front ++ one j ∷ map (with_edge bit edge before) bits)

put_at : (m : Module) (bit : Bit) (edge : Edge) (before : Registers)
    → put (number_among m bit) edge (map before (register_bits m)) ≡ map (with_edge bit edge before) (register_bits m)
put_at m bit edge before =
    ap (λ number. put number edge (map before (register_bits m))) (position_from-zero (same_bit bit) (register_bits m))
    ∙ put_from bit edge before [] (register_bits m) 0 refl (registers_apart m)

-- ---- many edges

abbrev picked : List Edge → Edge → Option ℕ → Edge
picked edges old (Some number) = get_or edges number zero_edge
picked edges old None = old

abbrev replaced_from : ℕ → List Bit → List Edge → Registers → Registers
replaced_from place bits edges before bit = picked edges (before bit) (position_from (same_bit bit) place bits)

one_more : (place : ℕ) (bit : Bit) (bits : List Bit) (edges : List Edge) (before : Registers) (other : Bit)
    → with_edge bit (get_or edges place zero_edge) (replaced_from (place + 1) bits edges before) other ≡ replaced_from place (bit ∷ bits) edges before other
one_more place bit bits edges before other = by (same_bit other bit)
  where
    by : (b : Bool) → cond b (get_or edges place zero_edge) (replaced_from (place + 1) bits edges before other)
        ≡ picked edges (before other) (cond b (Some place) (position_from (same_bit other) (place + 1) bits))
    by true = refl
    by false = refl

written_are : (m : Module) (place : ℕ) (bits : List Bit) (edges : List Edge) (before : Registers)
    → written_from place (numbers_of m bits) edges (map before (register_bits m)) ≡ map (replaced_from place bits edges before) (register_bits m)
written_are m place [] edges before = refl
written_are m place (bit ∷ bits) edges before =
    ap (put (number_among m bit) (get_or edges place zero_edge)) (written_are m (place + 1) bits edges before)
    ∙ put_at m bit (get_or edges place zero_edge) (replaced_from (place + 1) bits edges before)
    ∙ ap (λ change. map change (register_bits m)) (λ j other. one_more place bit bits edges before other j)

replaced_is : (bits : List Bit) (edges : List Edge) (before : Registers) (bit : Bit) → replaced_from 0 bits edges before bit ≡ replaced bits edges before bit
replaced_is bits edges before bit =
    ap (picked edges (before bit)) (sym (position_from-zero (same_bit bit) bits)) ∙ by (number_in bits bit)
  where
    by : (number : Option ℕ) → picked edges (before bit) number ≡ elim number as (λ number. Edge) [
      | Some number ↦ get_or edges number zero_edge
      | None ↦ before bit
    ]
    by (Some number) = refl
    by None = refl

-- Edges at the numbers of bits replace those of these bits.
pub written_bits : (m : Module) (bits : List Bit) (edges : List Edge) (before : Registers)
    → written (numbers_of m bits) edges (map before (register_bits m)) ≡ map (replaced bits edges before) (register_bits m)
written_bits m bits edges before =
    written_are m 0 bits edges before ∙ ap (λ change. map change (register_bits m)) (λ j bit. replaced_is bits edges before bit j)

pub down_bits : (m : Module) (bits : List Bit) → reverse (numbers_down m bits) ≡ numbers_of m bits
unfolding targets.numbers_down
down_bits m bits = reverse-reverse (numbers_of m bits)

-- ---- bits in their order

numbered_from : (test : Bit → Bool) (all before bits : List Bit) (start : ℕ) → all ≡ before ++ bits → start ≡ length before → Apart all
    → map (λ bit. position (same_bit bit) all) (filter test bits) ≡ map Some (places_from test start bits)
numbered_from test all before [] start whole is apart = refl
numbered_from test all before (bit ∷ bits) start whole is apart =
    by (test bit)
    (numbered_from test all (before ++ bit ∷ []) bits (start + 1) (whole ∙ sym (append_assoc before (bit ∷ []) bits))
    (omega (arith, is, length-append before (bit ∷ []))) apart)
  where
    here : position (same_bit bit) all ≡ Some start
    here =
        ap (position (same_bit bit)) whole
        ∙ first_at (same_bit bit) before bit bits (none_before before bit bits (subst Apart whole apart)) (bit_itself bit)
        ∙ ap (λ n. Some n) (sym is)

    by : (b : Bool) → map (λ bit. position (same_bit bit) all) (filter test bits) ≡ map Some (places_from test (start + 1) bits)
        → map (λ bit. position (same_bit bit) all) (cond b (bit ∷ filter test bits) (filter test bits))
        ≡ map Some (cond b (start ∷ places_from test (start + 1) bits) (places_from test (start + 1) bits))
    by true ih = (λ j. here j ∷ ih j)
    by false ih = ih

pub ordered_are : (m : Module) (bits : List Bit) → numbers_of m (ordered m bits) ≡ map Some (ordered_numbers m bits)
ordered_are m bits = numbered_from (λ bit. list_any (same_bit bit) bits) (register_bits m) [] (register_bits m) 0 refl refl (registers_apart m)

-- Edges at these numbers replace those of the bits in their order.
pub written_ordered : (m : Module) (bits : List Bit) (edges : List Edge) (before : Registers)
    → written (map Some (ordered_numbers m bits)) edges (map before (register_bits m)) ≡ map (replaced (ordered m bits) edges before) (register_bits m)
written_ordered m bits edges before =
    ap (λ numbers. written numbers edges (map before (register_bits m))) (sym (ordered_are m bits)) ∙ written_bits m (ordered m bits) edges before

edges_from : (test : Bit → Bool) (before : Registers) (front : List Edge) (bits : List Bit) (start : ℕ) → start ≡ length front
    → edges_at (places_from test start bits) (front ++ map before bits) ≡ map before (filter test bits)
edges_from test before front [] start is = refl
edges_from test before front (bit ∷ bits) start is =
    by (test bit)
    (ap (edges_at (places_from test (start + 1) bits)) (sym (append_assoc front (before bit ∷ []) (map before bits)))
    ∙ edges_from test before (front ++ before bit ∷ []) bits (start + 1) (omega (arith, is, length-append front (before bit ∷ []))))
  where
    here : (front : List Edge) (edge : Edge) (behind : List Edge) (n : ℕ) → n ≡ length front → get_or (front ++ edge ∷ behind) n zero_edge ≡ edge
    here [] edge behind zero is = refl
    here [] edge behind (suc n) is = absurd (omega (arith, is))
    here (other ∷ front) edge behind zero is = absurd (omega (arith, is))
    here (other ∷ front) edge behind (suc n) is = here front edge behind n (omega (arith, is))

    by : (b : Bool) → edges_at (places_from test (start + 1) bits) (front ++ before bit ∷ map before bits) ≡ map before (filter test bits)
        → edges_at (cond b (start ∷ places_from test (start + 1) bits) (places_from test (start + 1) bits)) (front ++ before bit ∷ map before bits)
        ≡ map before (cond b (bit ∷ filter test bits) (filter test bits))
    by true ih = (λ j. here front (before bit) (map before bits) start is j ∷ ih j)
    by false ih = ih

-- the edges of the bits in their order
pub edges_ordered : (m : Module) (bits : List Bit) (before : Registers)
    → edges_at (ordered_numbers m bits) (map before (register_bits m)) ≡ map before (ordered m bits)
edges_ordered m bits before = edges_from (λ bit. list_any (same_bit bit) bits) before [] (register_bits m) 0 refl

-- ---- what is replaced, where the others agree

agree : (bits : List Bit) (one other : Registers) → ((bit : Bit) → list_any (same_bit bit) bits ≡ true → one bit ≡ other bit) → map one bits ≡ map other bits
agree [] one other same = refl
agree (bit ∷ bits) one other same =
    let here : one bit ≡ other bit = same bit (ap (λ b. b || list_any (same_bit bit) bits) (bit_itself bit)) in
    let rest : map one bits ≡ map other bits = agree bits one other (λ it found. same it (or_right (same_bit it bit) (list_any (same_bit it) bits) found)) in
    λ j. here j ∷ rest j
  where
    or_right : (a b : Bool) → b ≡ true → (a || b) ≡ true
    or_right true b is = refl
    or_right false b is = is

-- A bit that passes the test is among those that are kept.
found_kept : (test : Bit → Bool) (bits : List Bit) (bit : Bit) → list_any (same_bit bit) bits ≡ true → test bit ≡ true
    → list_any (same_bit bit) (filter test bits) ≡ true
found_kept test [] bit found is = found
found_kept test (other ∷ bits) bit found is = by (same_bit bit other) refl (test other) refl found (λ found. found_kept test bits bit found is)
  where
    by : (b : Bool) → same_bit bit other ≡ b → (c : Bool) → test other ≡ c → (b || list_any (same_bit bit) bits) ≡ true
        → (list_any (same_bit bit) bits ≡ true → list_any (same_bit bit) (filter test bits) ≡ true)
        → list_any (same_bit bit) (cond c (other ∷ filter test bits) (filter test bits)) ≡ true
    by true same true kept found ih = ap (λ b. b || list_any (same_bit bit) (filter test bits)) same
    by true same false kept found ih = absurd (let it = ap test (sym (bits_same bit other same)) ∙ is in cc)
    by false same true kept found ih = ap (λ b. b || list_any (same_bit bit) (filter test bits)) same ∙ ih found
    by false same false kept found ih = ih found

module _ (m : Module) (bits : List Bit) where
  -- a register bit that has no number in the order is none of those bits
  not_ordered : (bit : Bit) → list_any (same_bit bit) (register_bits m) ≡ true → number_in (ordered m bits) bit ≡ None → list_any (same_bit bit) bits ≡ false
  not_ordered bit found none = by (list_any (same_bit bit) bits) refl
    where
      none_kept : (b : Bool) → list_any (same_bit bit) (ordered m bits) ≡ b → b ≡ false
      none_kept false is = refl
      none_kept true is = absurd (some_at (same_bit bit) (ordered m bits) is none)

      by : (b : Bool) → list_any (same_bit bit) bits ≡ b → b ≡ false
      by false is = refl
      by true is =
          absurd (
          let kept = found_kept (λ bit. list_any (same_bit bit) bits) (register_bits m) bit found is in
          let not_kept = none_kept (list_any (same_bit bit) (ordered m bits)) refl in
          cc
          )

  -- Where both agree outside of the bits, the same edges make them the same.
  pub replaced_same : (edges : List Edge) (one other : Registers) → ((bit : Bit) → list_any (same_bit bit) bits ≡ false → one bit ≡ other bit)
      → map (replaced (ordered m bits) edges one) (register_bits m) ≡ map (replaced (ordered m bits) edges other) (register_bits m)
  replaced_same edges one other same =
      agree (register_bits m) (replaced (ordered m bits) edges one) (replaced (ordered m bits) edges other) (λ bit found. by bit found (number_in (ordered m bits) bit) refl)
    where
      by : (bit : Bit) → list_any (same_bit bit) (register_bits m) ≡ true → (number : Option ℕ) → number_in (ordered m bits) bit ≡ number
          → elim number as (λ number. Edge) [ Some number ↦ get_or edges number zero_edge | None ↦ one bit ]
          ≡ elim number as (λ number. Edge) [ Some number ↦ get_or edges number zero_edge | None ↦ other bit ]
      by bit found (Some number) is = refl
      by bit found None is = same bit (not_ordered bit found is)

  -- Their own edges make the others those before.
  pub restored : (one before : Registers) → ((bit : Bit) → list_any (same_bit bit) bits ≡ false → one bit ≡ before bit)
      → map (replaced (ordered m bits) (map before (ordered m bits)) one) (register_bits m) ≡ map before (register_bits m)
  restored one before same =
      agree (register_bits m) (replaced (ordered m bits) (map before (ordered m bits)) one) before (λ bit found. by bit found (number_in (ordered m bits) bit) refl)
    where
      by : (bit : Bit) → list_any (same_bit bit) (register_bits m) ≡ true → (number : Option ℕ) → number_in (ordered m bits) bit ≡ number
          → elim number as (λ number. Edge) [ Some number ↦ get_or (map before (ordered m bits)) number zero_edge | None ↦ one bit ] ≡ before bit
      by bit found None is = same bit (not_ordered bit found is)
      by bit found (Some number) is =
          let at : (number < length (ordered m bits)) × (same_bit bit (get_or (ordered m bits) number bit) ≡ true) × ((k : ℕ) → k < number → same_bit bit (get_or (ordered m bits) k bit) ≡ false) =
          position-Some (same_bit bit) (ordered m bits) number bit is in
          get_or-map before (ordered m bits) number bit zero_edge at.0 ∙ ap before (sym (bits_same bit (get_or (ordered m bits) number bit) at.1))

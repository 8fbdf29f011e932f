-- The bits of names and selects are bits of their names, and no more than their widths.
use Rattle.std.specs.Prelude.{◌≡◌, ℕ, ◌+◌, ◌-◌, ◌≤◌, Bool, true, false, ◌&&◌, Option, None, Some, cond, is_some, nat_le, option_and_then, option_map, refl, unwrap_or}
use Rattle.std.proofs.Common.{◌⊎◌, inl, inr, arith, sym, subst}
use Rattle.std.proofs.lemmas.Bool.{leb-true}
use Rattle.std.proofs.lemmas.Option.{none-some, same_Some}
use Rattle.bm_base.specs.declared.range.Range.{Range}
use Rattle.vlog_tree.specs.declared.design.Module.{Module}
use Rattle.vlog_tree.specs.Meaning.Keys.{bit_count}
use Rattle.vlog_tree.specs.Meaning.Ranges.{Bits, bit_with, bits_between, bits_from, part_bits, part_of, place_of, range_of, span, whole_bits}
use Rattle.vlog_tree.specs.Meaning.Uses.{Text}
use Rattle.vlog_tree.specs.Meaning.Widths.{greatest, within}

-- bits of a name, no more than a width
abbrev pub FitsIn : Module → ℕ → Option Bits → Type 0
FitsIn m width None = ⊥
FitsIn m width (Some one) = (one.low + one.width ≤ bit_count m one.name) × (one.width ≤ width)

width_cond : (passes : Bool) (width : ℕ) → is_some (cond passes (Some width) None) ≡ true → unwrap_or (cond passes (Some width) None) 0 ≡ width
width_cond true width h = refl
width_cond false width h = absurd cc

-- a width that is there is the width that was judged
pub width_within : (width : ℕ) → is_some (within width) ≡ true → unwrap_or (within width) 0 ≡ width
width_within width h = width_cond (nat_le width greatest) width h

-- ---- whole names

whole_of : (m : Module) (name : Text) (range : Option Range) → unwrap_or (option_map span range) 0 ≡ bit_count m name → (width : ℕ)
    → is_some (option_and_then within (option_map span range)) ≡ true
    → unwrap_or (option_and_then within (option_map span range)) 0 ≤ width
    → FitsIn m width (option_map (λ range. bits_from name 0 (span range)) range)
whole_of m name None is width h k = absurd cc
whole_of m name (Some range) is width h k =
    let same : unwrap_or (within (span range)) 0 ≡ span range = width_within (span range) h in
    (omega (arith, is), omega (arith, same, k))

pub whole_fits : (m : Module) (name : Text) (width : ℕ) → is_some (option_and_then within (option_map span (range_of m name))) ≡ true
    → unwrap_or (option_and_then within (option_map span (range_of m name))) 0 ≤ width → FitsIn m width (whole_bits m name)
whole_fits m name width h k = whole_of m name (range_of m name) refl width h k

-- ---- places of indices

abbrev IsFalling : Range → ℕ → ℕ → Type 0
IsFalling range index place = (range.right ≤ index) × (index ≤ range.left) × (place + range.right ≡ index)

abbrev IsRising : Range → ℕ → ℕ → Type 0
IsRising range index place = (range.left ≤ index) × (index ≤ range.right) × (place + index ≡ range.right)

pub and_both : (a b : Bool) → (a && b) ≡ true → (a ≡ true) × (b ≡ true)
and_both true b h = (refl, h)
and_both false b h = absurd cc

first_some : (a : Bool) (x : ℕ) (rest : Option ℕ) (place : ℕ) → cond a (Some x) rest ≡ Some place
    → ((a ≡ true) × (x ≡ place)) ⊎ (rest ≡ Some place)
first_some true x rest place h = inl (refl, same_Some x place h)
first_some false x rest place h = inr h

last_some : (a : Bool) (x place : ℕ) → cond a (Some x) None ≡ Some place → (a ≡ true) × (x ≡ place)
last_some true x place h = (refl, same_Some x place h)
last_some false x place h = absurd (none-some place h)

falls : (range : Range) (index place : ℕ) → (nat_le range.right index && nat_le index range.left) ≡ true → index - range.right ≡ place
    → IsFalling range index place
falls range index place test is =
    let both = and_both (nat_le range.right index) (nat_le index range.left) test in
    let low : range.right ≤ index = leb-true range.right index both.0 in
    (low, leb-true index range.left both.1, omega (arith, low, is))

rises : (range : Range) (index place : ℕ) → (nat_le range.left index && nat_le index range.right) ≡ true → range.right - index ≡ place
    → IsRising range index place
rises range index place test is =
    let both = and_both (nat_le range.left index) (nat_le index range.right) test in
    let high : index ≤ range.right = leb-true index range.right both.1 in
    (leb-true range.left index both.0, high, omega (arith, high, is))

place_is : (range : Range) (index place : ℕ) → place_of range index ≡ Some place → IsFalling range index place ⊎ IsRising range index place
place_is range index place h =
    let falling : Bool = nat_le range.right index && nat_le index range.left in
    let rising : Bool = nat_le range.left index && nat_le index range.right in
    elim (first_some falling (index - range.right) (cond rising (Some (range.right - index)) None) place h) [
      | inl found ↦ inl (falls range index place found.0 found.1)
      | inr rest ↦ (let found = last_some rising (range.right - index) place rest in inr (rises range index place found.0 found.1))
    ]

pub place_fits : (range : Range) (index place : ℕ) → place_of range index ≡ Some place → place + 1 ≤ span range
place_fits range index place h =
    elim (place_is range index place h) [
      | inl falling ↦ (let one : place + range.right ≡ index = falling.2 in let high : index ≤ range.left = falling.1 in omega arith)
      | inr rising ↦ (let one : place + index ≡ range.right = rising.2 in let low : range.left ≤ index = rising.0 in omega arith)
    ]

-- ---- bits

bit_of_range : (m : Module) (name : Text) (index : ℕ) (range : Option Range) → unwrap_or (option_map span range) 0 ≡ bit_count m name → (width : ℕ)
    → is_some (option_map (λ (place : ℕ). bits_from name place 1) (option_and_then (λ range. place_of range index) range)) ≡ true
    → unwrap_or (option_map (λ (range : Range). 1) range) 0 ≤ width
    → FitsIn m width (option_map (λ place. bits_from name place 1) (option_and_then (λ range. place_of range index) range))
bit_of_range m name index None is width h k = absurd cc
bit_of_range m name index (Some range) is width h k =
    let found : (one : Option ℕ) → one ≡ place_of range index → is_some (option_map (λ (place : ℕ). bits_from name place 1) one) ≡ true
    → FitsIn m width (option_map (λ place. bits_from name place 1) one) =
    elim [
      | None ↦ λ same h. absurd cc
      | Some place ↦ λ same h. (let fits : place + 1 ≤ span range = place_fits range index place (sym same) in (omega (arith, fits, is), k))
    ] in
    found (place_of range index) refl h

pub bit_fits : (m : Module) (name : Text) (index width : ℕ) → is_some (bit_with m name index) ≡ true
    → unwrap_or (option_map (λ (range : Range). 1) (range_of m name)) 0 ≤ width → FitsIn m width (bit_with m name index)
bit_fits m name index width h k = bit_of_range m name index (range_of m name) refl width h k

-- ---- parts

-- the part of a range that stands between two places
between_fits : (m : Module) (name : Text) (range part : Range) → span range ≡ bit_count m name → (width : ℕ) → span part ≤ width
    → (high low : ℕ) → place_of range part.left ≡ Some high → place_of range part.right ≡ Some low → (ordered : Bool) → nat_le low high ≡ ordered
    → is_some (cond ordered (Some (bits_from name low (high - low + 1))) None) ≡ true
    → FitsIn m width (cond ordered (Some (bits_from name low (high - low + 1))) None)
between_fits m name range part is width k high low on_high on_low false test h = absurd cc
between_fits m name range part is width k high low on_high on_low true test h =
    let ordered : low ≤ high = leb-true low high test in
    let inside : high + 1 ≤ span range = place_fits range part.left high on_high in
    let narrow : high - low + 1 ≤ span part =
    elim (place_is range part.left high on_high) [
      | inl up ↦ elim (place_is range part.right low on_low) [
        | inl down ↦ (let a : high + range.right ≡ part.left = up.2 in let b : low + range.right ≡ part.right = down.2 in omega arith)
        | inr down ↦ (let a : high + range.right ≡ part.left = up.2 in let b : low + part.right ≡ range.right = down.2 in
            let c : part.left ≤ range.left = up.1 in let d : range.right ≤ part.left = up.0 in let e : range.left ≤ part.right = down.0 in
            let f : part.right ≤ range.right = down.1 in omega arith)
      ]
      | inr up ↦ elim (place_is range part.right low on_low) [
        | inl down ↦ (let a : high + part.left ≡ range.right = up.2 in let b : low + range.right ≡ part.right = down.2 in
            let c : range.left ≤ part.left = up.0 in let d : part.left ≤ range.right = up.1 in let e : range.right ≤ part.right = down.0 in
            let f : part.right ≤ range.left = down.1 in omega arith)
        | inr down ↦ (let a : high + part.left ≡ range.right = up.2 in let b : low + part.right ≡ range.right = down.2 in omega arith)
      ]
    ] in
    (omega (arith, ordered, inside, is), omega (arith, narrow, k))

ends_fit : (m : Module) (name : Text) (range part : Range) → span range ≡ bit_count m name → (width : ℕ) → span part ≤ width
    → (high low : Option ℕ) → place_of range part.left ≡ high → place_of range part.right ≡ low
    → is_some (option_and_then (λ high. option_and_then (bits_between name high) low) high) ≡ true
    → FitsIn m width (option_and_then (λ high. option_and_then (bits_between name high) low) high)
ends_fit m name range part is width k None low on_high on_low h = absurd cc
ends_fit m name range part is width k (Some high) None on_high on_low h = absurd cc
ends_fit m name range part is width k (Some high) (Some low) on_high on_low h =
    between_fits m name range part is width k high low on_high on_low (nat_le low high) refl h

part_of_range : (m : Module) (name : Text) (part : Range) (range : Option Range) → unwrap_or (option_map span range) 0 ≡ bit_count m name
    → (width : ℕ) → is_some (option_and_then (λ (range : Range). part_of range name part) range) ≡ true
    → is_some (option_and_then (λ (range : Range). within (span part)) range) ≡ true
    → unwrap_or (option_and_then (λ (range : Range). within (span part)) range) 0 ≤ width
    → FitsIn m width (option_and_then (λ range. part_of range name part) range)
part_of_range m name part None is width h l k = absurd cc
part_of_range m name part (Some range) is width h l k =
    ends_fit m name range part is width (subst (λ count. count ≤ width) (width_within (span part) l) k)
    (place_of range part.left) (place_of range part.right) refl refl h

pub part_fits : (m : Module) (name : Text) (part : Range) (width : ℕ) → is_some (part_bits m name part) ≡ true
    → is_some (option_and_then (λ (range : Range). within (span part)) (range_of m name)) ≡ true
    → unwrap_or (option_and_then (λ (range : Range). within (span part)) (range_of m name)) 0 ≤ width → FitsIn m width (part_bits m name part)
part_fits m name part width h l k = part_of_range m name part (range_of m name) refl width h l k

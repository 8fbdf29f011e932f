-- A left side whose names are known and in which nothing is wrong has bits, as many as it is wide.
use Rattle.std.proofs.Common.{◌≡◌, ℕ, zero, suc, ◌+◌, ◌-◌, ◌≤◌, List, [], ◌∷◌, ◌++◌, Bool, true, false, ◌&&◌, cond, Option, None, Some, refl, ap, sym, subst, ◌∙◌, arith, ◌⊎◌, inl, inr, flat_map, is_some, length, length-append, map, nat_le, option_and_then, reverse, sum}
use Rattle.std.specs.List.{range_with_len}
use Rattle.std.specs.Option.{option_map}
use Rattle.std.proofs.Math.Nat.{add_comm}
use Rattle.std.proofs.lemmas.Bool.{leb-true}
use Rattle.std.proofs.lemmas.List.{append-nil, length-map, reverse-append}
use Rattle.std.proofs.lemmas.List.Concat.{flat_map-append}
use Rattle.std.proofs.lemmas.List.Sums.{sum_by-cons}
use Rattle.bm_base.specs.declared.range.Range.{Range}
use Rattle.vlog_tree.specs.declared.design.Module.{Module}
use Rattle.vlog_tree.specs.declared.left.Left.{Left, roll-Left}
use Rattle.vlog_tree.specs.declared.left.Left.TheFolds.{fold-roll-Left, ind-Left, map-Left}
use Rattle.vlog_tree.specs.declared.left.Left.TheOpen.{Left-F}
use Rattle.vlog_tree.specs.Meaning.Lefts.{Bit, beside, each_bit, left_bits, left_bits_at, some_bits}
use Rattle.vlog_tree.specs.Meaning.Ranges.{Bits, bit_with, bits_between, bits_from, part_bits, part_of, place_of, range_of, span}
use Rattle.vlog_tree.specs.Meaning.Uses.{Text, Use, joined, left_uses, left_uses_at}
use Rattle.width_rules.specs.Widths.{Shape, bad_select, failures_of, left_shape, left_shape_at, shape, together, widths_of}
use Rattle.design_laws.specs.Sound.{each, left_is_sound, left_is_sound_at}
use Rattle.design_laws.proofs.Exprs.{AreKnown, judged_inside, known_left, known_right, range_known, selected, span_known}
use Rattle.design_laws.proofs.Members.{both, left_none, right_none, some_same}

-- ---- how many bits there are

length_range : (start len : ℕ) → length (range_with_len start len) ≡ len
length_range start zero = refl
length_range start (suc len) = ap suc (length_range (start + 1) len)

length_bits : (bits : Bits) → length (each_bit bits) ≡ bits.width
length_bits bits = length-map (range_with_len bits.low bits.width) _ ∙ length_range bits.low bits.width

-- what is said of the bits that there are
pub with_bits : (found : Option Bits) (width : ℕ) → is_some found ≡ true → ((bits : Bits) → found ≡ Some bits → bits.width ≡ width)
    → length (some_bits found) ≡ width
with_bits (Some bits) width is wide = length_bits bits ∙ wide bits refl
with_bits None width is wide = absurd cc

bits_given : (name : Text) (high low : ℕ) (bits : Bits) → bits_between name high low ≡ Some bits
    → (low ≤ high) × (bits.width ≡ high - low + 1)
bits_given name high low bits is = by (nat_le low high) refl is
  where
    by : (b : Bool) → nat_le low high ≡ b → cond b (Some (bits_from name low (high - low + 1))) None ≡ Some bits
        → (low ≤ high) × (bits.width ≡ high - low + 1)
    by true at is =
        (leb-true low high at, ap (λ (bits : Bits). bits.width) (sym (some_same (bits_from name low (high - low + 1)) bits is)))
    by false at is = absurd cc

-- an index inside of a range whose left end is the higher one, or the lower one
abbrev IsInFalling : Range → ℕ → ℕ → Type 0
IsInFalling range index place = (range.right ≤ index) × (index ≤ range.left) × (place ≡ index - range.right)

abbrev IsInRising : Range → ℕ → ℕ → Type 0
IsInRising range index place = (range.left ≤ index) × (index ≤ range.right) × (place ≡ range.right - index)

place_given : (range : Range) (index place : ℕ) → place_of range index ≡ Some place
    → IsInFalling range index place ⊎ IsInRising range index place
place_given range index place is =
    by (nat_le range.right index) (nat_le index range.left) (nat_le range.left index) (nat_le index range.right) refl refl refl refl is
  where
    by : (a b c d : Bool) → nat_le range.right index ≡ a → nat_le index range.left ≡ b → nat_le range.left index ≡ c
        → nat_le index range.right ≡ d
        → cond (a && b) (Some (index - range.right)) (cond (c && d) (Some (range.right - index)) None) ≡ Some place
        → IsInFalling range index place ⊎ IsInRising range index place
    by true true c d low high e f is = inl (
      leb-true range.right index low,
      leb-true index range.left high,
      sym
          (some_same (index - range.right) place is),
    )
    by true false true true e f low high is = inr (
      leb-true range.left index low,
      leb-true index range.right high,
      sym
          (some_same (range.right - index) place is),
    )
    by true false true false e f g h is = absurd cc
    by true false false d e f g h is = absurd cc
    by false b true true e f low high is = inr (
      leb-true range.left index low,
      leb-true index range.right high,
      sym
          (some_same (range.right - index) place is),
    )
    by false b true false e f g h is = absurd cc
    by false b false d e f g h is = absurd cc

spanned : (range part : Range) (high low : ℕ) → IsInFalling range part.left high ⊎ IsInRising range part.left high
    → IsInFalling range part.right low ⊎ IsInRising range part.right low → low ≤ high → high - low + 1 ≡ span part
spanned range part high low (inl a) (inl b) h = omega (arith, a.0, a.1, a.2, b.0, b.1, b.2)
spanned range part high low (inl a) (inr b) h = omega (arith, a.0, a.1, a.2, b.0, b.1, b.2)
spanned range part high low (inr a) (inl b) h = omega (arith, a.0, a.1, a.2, b.0, b.1, b.2)
spanned range part high low (inr a) (inr b) h = omega (arith, a.0, a.1, a.2, b.0, b.1, b.2)

-- A part has as many bits as it spans.
part_wide : (range part : Range) (name : Text) (bits : Bits) → part_of range name part ≡ Some bits → bits.width ≡ span part
part_wide range part name bits is = by (place_of range part.left) (place_of range part.right) refl refl is
  where
    by : (a b : Option ℕ) → place_of range part.left ≡ a → place_of range part.right ≡ b
        → option_and_then (λ high. option_and_then (bits_between name high) b) a ≡ Some bits → bits.width ≡ span part
    by (Some high) (Some low) at at' is =
        let given = bits_given name high low bits is in
        given.1 ∙ spanned range part high low (place_given range part.left high at) (place_given range part.right low at') given.0
    by (Some high) None at at' is = absurd cc
    by None b at at' is = absurd cc

length_beside : (parts : List (List Bit)) → length (beside parts) ≡ sum (map length parts)
length_beside [] = refl
length_beside (part ∷ parts) =
    ap (λ parts. length (flat_map (λ (part : List Bit). part) parts)) (reverse-append (part ∷ []) parts)
    ∙ (ap length (flat_map-append (λ (part : List Bit). part) (reverse parts) (part ∷ []))
    ∙ (length-append (beside parts) (part ++ [])
    ∙ (ap (λ bits. length (beside parts) + length bits) (append-nil part)
    ∙ (ap (λ n. n + length part) (length_beside parts)
    ∙ (add_comm (sum (map length parts)) (length part)
    ∙ sym (sum_by-cons (λ (n : ℕ). n) (length part) (map length parts)))))))

-- ---- one level

-- what holds of a left side whose names are known and in which nothing is wrong
abbrev pub Holds : Module → Left → Type 0
Holds m left = AreKnown m (left_uses left) → (left_shape m left).failures ≡ []
    → (left_is_sound m left ≡ true) × (length (left_bits m left) ≡ (left_shape m left).width)

abbrev Held : Module → Type 0
Held m = (left : Left) × Holds m left

module _ (m : Module) where
  -- the same of one level, by what its parts have
  abbrev HoldsAt : Left-F Left → Type 0
  HoldsAt x =
      AreKnown m (left_uses_at (map-Left Left (List Use) left_uses x))
      → (left_shape_at m (map-Left Left Shape (left_shape m) x)).failures ≡ []
      → (left_is_sound_at m (map-Left Left Bool (left_is_sound m) x) ≡ true)
      × (length (left_bits_at m (map-Left Left (List Bit) (left_bits m) x)) ≡ (left_shape_at m (map-Left Left Shape (left_shape m) x)).width)

  abbrev bare : Left-F (Held m) → Left-F Left
  bare y = map-Left (Held m) Left (λ left. left.0) y

  abbrev sides : List (Held m) → List Left
  sides parts = map (λ part. part.0) parts

  parts_right : (parts : List (Held m)) → AreKnown m (joined (map left_uses (sides parts)))
      → failures_of (map (left_shape m) (sides parts)) ≡ []
      → (each (map (left_is_sound m) (sides parts)) ≡ true)
      × (map length (map (left_bits m) (sides parts)) ≡ map (λ (s : Shape). s.width) (map (left_shape m) (sides parts)))
  parts_right [] known none = (refl, refl)
  parts_right ((left, holds) ∷ parts) known none =
      let uses = joined (map left_uses (sides parts)) in
      let failures = failures_of (map (left_shape m) (sides parts)) in
      let here : (left_is_sound m left ≡ true) × (length (left_bits m left) ≡ (left_shape m left).width) =
      holds (known_left m (left_uses left) uses known) (left_none (left_shape m left).failures failures none) in
      let rest = parts_right parts (known_right m (left_uses left) uses known) (right_none (left_shape m left).failures failures none) in (
        both (left_is_sound m left) (each (map (left_is_sound m) (sides parts))) here.0 rest.0,
        ap (λ n. n ∷ map length (map (left_bits m) (sides parts))) here.1 ∙ ap (λ ns. (left_shape m left).width ∷ ns) rest.1,
      )

  level : (y : Left-F (Held m)) → HoldsAt (bare y)
  level (Left-F.Whole at name) known none =
      let range = range_known m at name true known in (
        ap is_some range.1,
        ap (λ found. length (some_bits (option_map (λ range. bits_from name 0 (span range)) found))) range.1
            ∙ length_bits (bits_from name 0 (span range.0)) ∙ sym (span_known m name range.0 range.1),
      )
  level (Left-F.Bit at name index) known none =
      let some = selected m at name (bit_with m name index) none in
      (some, with_bits (bit_with m name index) 1 some (bit_wide (option_and_then (λ range. place_of range index) (range_of m name))))
    where
      bit_wide : (place : Option ℕ) (bits : Bits) → option_map (λ place. bits_from name place 1) place ≡ Some bits → bits.width ≡ 1
      bit_wide (Some place) bits is = ap (λ (bits : Bits). bits.width) (sym (some_same (bits_from name place 1) bits is))
      bit_wide None bits is = absurd cc
  level (Left-F.Part at name part) known none =
      let some = selected m at name (part_bits m name part)
      (judged_inside m (shape at (Some name) (span part) (bad_select m at name (part_bits m name part))) none) in
      (some, with_bits (part_bits m name part) (span part) some (part_is_wide (range_of m name)))
    where
      part_is_wide : (range : Option Range) (bits : Bits) → option_and_then (λ range. part_of range name part) range ≡ Some bits
          → bits.width ≡ span part
      part_is_wide (Some range) bits is = part_wide range part name bits is
      part_is_wide None bits is = absurd cc
  level (Left-F.Join parts) known none =
      let shapes = map (left_shape m) (sides parts) in
      let right = parts_right parts known (judged_inside m (together shapes (widths_of shapes)) none) in
      (right.0, length_beside (map (left_bits m) (sides parts)) ∙ ap sum right.1)

  -- ---- whole left sides

  whole : (x : Left-F Left) → HoldsAt x → Holds m (roll-Left x)
  whole x holds known none =
      let uses = fold-roll-Left (List Use) left_uses_at x in
      let shapes = fold-roll-Left Shape (left_shape_at m) x in
      let sound = fold-roll-Left Bool (left_is_sound_at m) x in
      let bits = fold-roll-Left (List Bit) (left_bits_at m) x in
      let right = holds (subst (AreKnown m) uses known) (ap (λ (s : Shape). s.failures) (sym shapes) ∙ none) in
      (sound ∙ right.0, ap length bits ∙ right.1 ∙ ap (λ (s : Shape). s.width) (sym shapes))

  pub left_right : (left : Left) → Holds m left
  left_right = ind-Left (Holds m) (λ x y is. subst (λ x. Holds m (roll-Left x)) is (whole (bare y) (level y)))

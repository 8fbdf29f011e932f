-- The bits of a code.
use Rattle.std.proofs.Common.{◌≡◌, ℕ, ◌+◌, ◌==◌, ◌<◌, zero, suc, List, [], ◌∷◌, ◌++◌, All, Bool, true, false, cond, length, map, Option, Some, None, if◌then◌else◌, slice_set, slice_index_or, arith, refl, sym, ap, ◌∙◌}
use Rattle.std.specs.List.{count_by}
use Rattle.std.specs.Option.{option_map_or}
use Rattle.std.specs.Map.{update}
use Rattle.std.specs.Str.{bytes_eq}
use Rattle.std.proofs.Math.Seq.{set-append_seam}
use Rattle.std.proofs.lemmas.List.{append-nil, append_assoc, length-set}
use Rattle.std.proofs.lemmas.List.Sums.{sum_by-cons}
use Rattle.std.proofs.lemmas.Slice.Eq.{bytes_eq-Decides}
use Rattle.vcd_reader.specs.declared.digit.Target.{Target}
use Rattle.vcd_reader.specs.Sampling.{change_at}
use Rattle.vcd_reader.specs.Targets.{is_unknown_at, target_at, targets_from, with_digits}
use Rattle.vcd_reader.specs.Values.{digit_at, digit_given, is_unknown, value_after}
use Rattle.vcd_header.specs.Matching.{Source}

-- what a map from codes to lists gives behind an update
pub list_updated : {X : Type 0} (items : X → List Target) (f : List ℕ → Option X) (code other : List ℕ) (w now : Option X) → now ≡ update bytes_eq f code w other
    → option_map_or items now [] ≡ (if bytes_eq code other then option_map_or items w [] else option_map_or items (f other) [])
list_updated items f code other w now is = ap (λ now. option_map_or items now []) is ∙ by (bytes_eq code other)
  where
    by : (b : Bool) → option_map_or items (cond b w (f other)) [] ≡ (if b then option_map_or items w [] else option_map_or items (f other) [])
    by true = refl
    by false = refl

same_bytes : (xs ys : List ℕ) → bytes_eq xs ys ≡ true → xs ≡ ys
same_bytes xs ys h = (bytes_eq-Decides xs ys).0 h

to_bytes : (xs ys : List ℕ) → xs ≡ ys → bytes_eq xs ys ≡ true
to_bytes xs ys h = (bytes_eq-Decides xs ys).1 h

-- taken away, one longer, and put back
pub one_added : (old mid new : List ℕ → List Target) (code : List ℕ) (target : Target) (list : List Target)
    → list ≡ old code ++ target ∷ []
    → ((other : List ℕ) → mid other ≡ (if bytes_eq code other then [] else old other))
    → ((other : List ℕ) → new other ≡ (if bytes_eq code other then list else mid other))
    → (other : List ℕ) → new other ≡ old other ++ (if bytes_eq other code then target ∷ [] else [])
one_added old mid new code target list longer taken put other = by (bytes_eq code other) (bytes_eq other code) refl refl (taken other) (put other)
  where
    by : (b t : Bool) → bytes_eq code other ≡ b → bytes_eq other code ≡ t → mid other ≡ (if b then [] else old other) → new other ≡ (if b then list else mid other)
        → new other ≡ old other ++ (if t then target ∷ [] else [])
    by true true is back mid_is new_is = new_is ∙ longer ∙ ap (λ code. old code ++ target ∷ []) (same_bytes code other is)
    by true false is back mid_is new_is = let back_is = to_bytes other code (sym (same_bytes code other is)) in absurd (cc)
    by false true is back mid_is new_is = let front_is = to_bytes code other (sym (same_bytes other code back)) in absurd (cc)
    by false false is back mid_is new_is = new_is ∙ mid_is ∙ sym (append-nil (old other))

-- The targets are among so many places.
pub targets_below : (place : ℕ) (code : List ℕ) (sources : List Source) → All (λ (target : Target). target.bit < place + length sources) (targets_from place code sources)
targets_below place code [] = λ k d h. absurd (omega arith)
targets_below place code (source ∷ sources) = by (bytes_eq code source.code) (targets_below (place + 1) code sources)
  where
    by : (b : Bool) → All (λ (target : Target). target.bit < place + 1 + length sources) (targets_from (place + 1) code sources)
        → All (λ (target : Target). target.bit < place + length (source ∷ sources)) ((if b then target_at place source.digit ∷ [] else []) ++ targets_from (place + 1) code sources)
    by true ih = λ k d h. at_first k d h
      where
        at_first : (k : ℕ) (d : Target) → k < length (target_at place source.digit ∷ targets_from (place + 1) code sources) → (slice_index_or (target_at place source.digit ∷ targets_from (place + 1) code sources) k d).bit < place + length (source ∷ sources)
        at_first zero d h = omega arith
        at_first (suc k) d h = omega (arith, ih k d (omega arith))
    by false ih = λ k d h. omega (arith, ih k d h)

length_one : (front : List Bool) (x : Bool) → length (front ++ x ∷ []) ≡ length front + 1
length_one [] x = refl
length_one (y ∷ front) x = grind (arith, length_one front x)

zero_plus : (n : ℕ) → 0 + n ≡ n
zero_plus n = omega arith

module _ (time : ℕ) (code digits : List ℕ) where
  -- the digits of a value, bit by bit
  digits_put : (value : Source → Bool) (front : List Bool) (sources : List Source)
      → with_digits digits (targets_from (length front) code sources) (front ++ map value sources)
      ≡ front ++ map (λ source. value_after (value source) (digit_given source (change_at time code digits))) sources
  digits_put value front [] = refl
  digits_put value front (source ∷ sources) = by (bytes_eq code source.code) (λ front. digits_put value front sources)
    where
      behind : ((front : List Bool) → with_digits digits (targets_from (length front) code sources) (front ++ map value sources) ≡ front ++ map (λ source. value_after (value source) (digit_given source (change_at time code digits))) sources)
          → (x : Bool) → with_digits digits (targets_from (length front + 1) code sources) (front ++ x ∷ map value sources) ≡ front ++ x ∷ map (λ source. value_after (value source) (digit_given source (change_at time code digits))) sources
      behind ih x =
          ap (λ n. with_digits digits (targets_from n code sources) (front ++ x ∷ map value sources)) (sym (length_one front x))
          ∙ ap (with_digits digits (targets_from (length (front ++ x ∷ [])) code sources)) (sym (append_assoc front (x ∷ []) (map value sources)))
          ∙ ih (front ++ x ∷ [])
          ∙ append_assoc front (x ∷ []) (map (λ source. value_after (value source) (digit_given source (change_at time code digits))) sources)

      by : (b : Bool) → ((front : List Bool) → with_digits digits (targets_from (length front) code sources) (front ++ map value sources) ≡ front ++ map (λ source. value_after (value source) (digit_given source (change_at time code digits))) sources)
          → with_digits digits ((if b then target_at (length front) source.digit ∷ [] else []) ++ targets_from (length front + 1) code sources) (front ++ value source ∷ map value sources)
          ≡ front ++ value_after (value source) (if b then Some (digit_at digits source.digit) else None) ∷ map (λ source. value_after (value source) (digit_given source (change_at time code digits))) sources
      by true ih =
          ap (with_digits digits (targets_from (length front + 1) code sources)) (set-append_seam front (value source) (map value sources) (digit_at digits source.digit == 49))
          ∙ behind ih (digit_at digits source.digit == 49)
      by false ih = behind ih (value source)

  -- the values of all bits behind a change
  pub values_put : (value : Source → Bool) (sources : List Source)
      → with_digits digits (targets_from 0 code sources) (map value sources) ≡ map (λ source. value_after (value source) (digit_given source (change_at time code digits))) sources
  values_put value sources = digits_put value [] sources

  -- how many of the bits get `x` or `z`
  pub unknown_put : (place : ℕ) (sources : List Source)
      → count_by (is_unknown_at digits) (targets_from place code sources) ≡ count_by (λ source. is_unknown (digit_given source (change_at time code digits))) sources
  unknown_put place [] = refl
  unknown_put place (source ∷ sources) =
      by (bytes_eq code source.code) (unknown_put (place + 1) sources)
      ∙ sym (sum_by-cons (λ source. cond (is_unknown (digit_given source (change_at time code digits))) 1 0) source sources)
    where
      by : (b : Bool) → count_by (is_unknown_at digits) (targets_from (place + 1) code sources) ≡ count_by (λ source. is_unknown (digit_given source (change_at time code digits))) sources
          → count_by (is_unknown_at digits) ((if b then target_at place source.digit ∷ [] else []) ++ targets_from (place + 1) code sources)
          ≡ cond (is_unknown (if b then Some (digit_at digits source.digit) else None)) 1 0 + count_by (λ source. is_unknown (digit_given source (change_at time code digits))) sources
      by true ih =
          sum_by-cons (λ target. cond (is_unknown_at digits target) 1 0) (target_at place source.digit) (targets_from (place + 1) code sources)
          ∙ ap (λ n. cond (is_unknown_at digits (target_at place source.digit)) 1 0 + n) ih
      by false ih = ih ∙ sym (zero_plus (count_by (λ source. is_unknown (digit_given source (change_at time code digits))) sources))

-- Digits are put in place.
pub length_put : (digits : List ℕ) (targets : List Target) (values : List Bool) → length (with_digits digits targets values) ≡ length values
length_put digits [] values = refl
length_put digits (target ∷ targets) values =
    length_put digits targets (slice_set values target.bit (digit_at digits target.digit == 49))
    ∙ length-set values target.bit (digit_at digits target.digit == 49)

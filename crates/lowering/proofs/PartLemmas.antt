-- Parts that stand one beside the other.
use Rattle.std.specs.Prelude.{◌≡◌, ℕ, zero, suc, ◌+◌, ◌-◌, ◌*◌, ◌≤◌, List, [], ◌∷◌, ◌++◌, false, Some, cond, flat_map, map, refl, reverse}
use Rattle.std.specs.List.{range_with_len, repeat}
use Rattle.std.proofs.Common.{ap, arith, ◌∙◌, append-nil}
use Rattle.std.proofs.Math.Nat.{suc-mul}
use Rattle.std.proofs.lemmas.Bool.{le-ltb, lt-ltb}
use Rattle.std.proofs.lemmas.List.{reverse-append}
use Rattle.std.proofs.lemmas.List.Concat.{flat_map-append}
use Rattle.vlog_tree.specs.declared.design.Module.{Module}
use Rattle.vlog_tree.specs.Meaning.Expressions.{Operand, part_bit, width_of}
use Rattle.lowering.proofs.LoweredLemmas.{Values}
use Rattle.lowering.proofs.PlaceLemmas.{bits, same_run, split_run}

-- ---- lists

pub flat-reverse : {X Y : Type 0} (f : X → List Y) (x : X) (xs : List X) → flat_map f (reverse (x ∷ xs)) ≡ flat_map f (reverse xs) ++ f x
flat-reverse f x xs =
    ap (flat_map f) (reverse-append (x ∷ []) xs)
    ∙ (flat_map-append f (reverse xs) (x ∷ [])
    ∙ ap (λ last. flat_map f (reverse xs) ++ last) (append-nil (f x)))

pub flat-repeat : {X Y : Type 0} (f : X → List Y) (count : ℕ) (xs : List X) → flat_map f (repeat count xs) ≡ repeat count (flat_map f xs)
flat-repeat f zero xs = refl
flat-repeat f (suc count) xs =
    flat_map-append f xs (repeat count xs) ∙ ap (λ rest. flat_map f xs ++ rest) (flat-repeat f count xs)

module _ (m : Module) where
  -- the bits of an operand that is evaluated at its own width
  abbrev pub own_values : Operand → Values
  own_values operand = bits (operand.1 (width_of m operand)) (width_of m operand)

  -- the width of all parts
  abbrev pub total : List Operand → ℕ
  total [] = 0
  total (part ∷ parts) = width_of m part + total parts

  pub total-append : (parts others : List Operand) → total (parts ++ others) ≡ total parts + total others
  total-append [] others = omega arith
  total-append (part ∷ parts) others =
      let rest : total (parts ++ others) ≡ total parts + total others = total-append parts others in omega (arith, rest)

  pub total-reverse : (parts : List Operand) → total (reverse parts) ≡ total parts
  total-reverse [] = refl
  total-reverse (part ∷ parts) =
      ap total (reverse-append (part ∷ []) parts)
      ∙ (total-append (reverse parts) (part ∷ [])
      ∙ (let rest : total (reverse parts) ≡ total parts = total-reverse parts in
      let same : total (reverse parts) + (width_of m part + 0) ≡ width_of m part + total parts = omega (arith, rest) in same))

  pub total-repeat : (count : ℕ) (parts : List Operand) → total (repeat count parts) ≡ count * total parts
  total-repeat zero parts = omega arith
  total-repeat (suc count) parts =
      total-append parts (repeat count parts)
      ∙ (ap (λ rest. total parts + rest) (total-repeat count parts)
      ∙ (let same : total parts + count * total parts ≡ suc count * total parts = omega (arith, suc-mul count (total parts)) in same))

  -- the bits of parts are those of each
  pub parts_are : (parts : List Operand) → bits (part_bit m parts) (total parts) ≡ flat_map own_values parts
  parts_are [] = refl
  parts_are (part ∷ parts) =
      let width : ℕ = width_of m part in
      let rest : ℕ = total parts in
      let first : bits (part_bit m (part ∷ parts)) width ≡ bits (part.1 width) width =
      same_run (part_bit m (part ∷ parts)) (part.1 width) 0 0 width (λ i inside.
      ap (λ within. cond within (part.1 width (0 + i)) (part_bit m parts (0 + i - width))) (lt-ltb (0 + i) width (omega arith))) in
      let others : map (part_bit m (part ∷ parts)) (range_with_len (0 + width) rest) ≡ bits (part_bit m parts) rest =
      same_run (part_bit m (part ∷ parts)) (part_bit m parts) (0 + width) 0 rest (λ i inside.
      ap (λ within. cond within (part.1 width (0 + width + i)) (part_bit m parts (0 + width + i - width))) (le-ltb (0 + width + i) width (omega arith))
      ∙ ap (part_bit m parts) (let same : 0 + width + i - width ≡ 0 + i = omega arith in same)) in
      split_run (part_bit m (part ∷ parts)) 0 width rest (total (part ∷ parts)) refl
      ∙ (ap (λ values. values ++ map (part_bit m (part ∷ parts)) (range_with_len (0 + width) rest)) first
      ∙ ap (λ values. bits (part.1 width) width ++ values) (others ∙ parts_are parts))

  pub parts_end : (parts : List Operand) (place : ℕ) → total parts ≤ place → part_bit m parts place ≡ Some false
  parts_end [] place above = refl
  parts_end (part ∷ parts) place above =
      let width : ℕ = width_of m part in
      ap (λ within. cond within (part.1 width place) (part_bit m parts (place - width))) (le-ltb place width (omega arith))
      ∙ parts_end parts (place - width) (omega arith)

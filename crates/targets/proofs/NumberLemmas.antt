-- The numbers of bits that stand one after another.
use Rattle.std.proofs.Common.{◌≡◌, ◌≤◌, ◌<◌, ◌+◌, ◌-◌, ℕ, zero, suc, List, [], ◌∷◌, ◌++◌, Option, None, Some, refl, ap, sym, ◌∙◌, arith, append_assoc, drop, flat_map, get_or, length, map, reverse}
use Rattle.std.proofs.lemmas.Grind.{flat_map-append}
use Rattle.std.proofs.lemmas.List.{append-nil, at_drop_more, map-append, reverse-append}
use Rattle.std.proofs.lemmas.List.Folds.{flat_map-map}
use Rattle.std.proofs.lemmas.List.FromFn.{map-range_with_len_more}
use Rattle.std.specs.List.{range_with_len}
use Rattle.std.specs.Option.{IfSome}
use Rattle.bm_base.specs.declared.size.Size.TheVariants.{Nodes}
use Rattle.bm_base.specs.Size.{limit_of}
use Rattle.targets.specs.Numbers.{Numbering, number_at, numbers_down}
use Rattle.vlog_tree.specs.declared.design.Module.{Module}
use Rattle.vlog_tree.specs.Meaning.Keys.{bit_count}
use Rattle.vlog_tree.specs.Meaning.Lefts.{Bit, beside, bit_of, each_bit}
use Rattle.vlog_tree.specs.Meaning.Ranges.{bits_from}
use Rattle.vlog_tree.specs.Meaning.Uses.{Text}

-- ---- the bits of a run

pub each_numbered : (m : Module) (number : Numbering) (name : Text) (first : Option ℕ)
    → ((bit : ℕ) → bit < bit_count m name → number (bit_of name bit) ≡ number_at first bit)
    → (low width : ℕ) → low + width ≤ bit_count m name
    → map number (map (bit_of name) (range_with_len low width)) ≡ map (number_at first) (range_with_len low width)
each_numbered m number name first numbered low zero within = refl
each_numbered m number name first numbered low (suc width) within =
    let one : number (bit_of name low) ≡ number_at first low = numbered low (omega (arith, within)) in
    let rest : map number (map (bit_of name) (range_with_len (low + 1) width)) ≡ map (number_at first) (range_with_len (low + 1) width) =
    each_numbered m number name first numbered (low + 1) width (omega (arith, within)) in
    λ j. one j ∷ rest j

pub run_down : (m : Module) (number : Numbering) (name : Text) (first : Option ℕ)
    → ((bit : ℕ) → bit < bit_count m name → number (bit_of name bit) ≡ number_at first bit)
    → (low width : ℕ) → low + width ≤ bit_count m name
    → numbers_down number (each_bit (bits_from name low width)) ≡ reverse (map (number_at first) (range_with_len low width))
unfolding numbers_down
run_down m number name first numbered low width within = ap reverse (each_numbered m number name first numbered low width within)

pub run_within : (first : Option ℕ) (count low width : ℕ) → low + width ≤ count → IfSome first (λ first. first + count ≤ limit_of Nodes)
    → IfSome first (λ first. first + (low + width) ≤ limit_of Nodes)
run_within None count low width few within = tt
run_within (Some first) count low width few within = omega (arith, few, within)

-- ---- the bits of parts

all_down : {X Y : Type 0} (f : X → Y) (lists : List (List X))
    → reverse (map f (flat_map (λ list. list) (reverse lists))) ≡ flat_map (λ list. reverse (map f list)) lists
all_down f [] = refl
all_down {X = X} f (list ∷ lists) =
    let rest : List X = flat_map (λ list. list) (reverse lists) in
    ap (λ lists. reverse (map f (flat_map (λ list. list) lists))) (reverse-append (list ∷ []) lists)
    ∙ ap (λ bits. reverse (map f bits)) (flat_map-append (λ list. list) (reverse lists) (list ∷ []))
    ∙ ap (λ bits. reverse (map f (rest ++ bits))) (append-nil list)
    ∙ ap reverse (map-append f rest list)
    ∙ reverse-append (map f rest) (map f list)
    ∙ ap (λ numbers. reverse (map f list) ++ numbers) (all_down f lists)

pub beside_down : {X : Type 0} (number : Numbering) (bits : X → List Bit) (parts : List X)
    → numbers_down number (beside (map bits parts)) ≡ flat_map (λ part. numbers_down number (bits part)) parts
unfolding numbers_down
beside_down number bits parts =
    all_down number (map bits parts) ∙ flat_map-map (λ list. reverse (map number list)) bits parts

pub none_down : (number : Numbering) → numbers_down number [] ≡ []
unfolding numbers_down
none_down number = refl

-- ---- one number more, from the highest down

down_less : (first : Option ℕ) (low width : ℕ) → 0 < width
    → reverse (map (number_at first) (range_with_len low width))
    ≡ number_at first (low + (width - 1)) ∷ reverse (map (number_at first) (range_with_len low (width - 1)))
down_less first low width some =
    let count : width ≡ width - 1 + 1 = omega arith in
    ap (λ n. reverse (map (number_at first) (range_with_len low n))) count
    ∙ ap reverse (map-range_with_len_more (number_at first) low (width - 1) (low + (width - 1)) refl)
    ∙ reverse-append (map (number_at first) (range_with_len low (width - 1))) (number_at first (low + (width - 1)) ∷ [])

pub less_taken : (numbers more initial : List (Option ℕ)) (first : Option ℕ) (low width i : ℕ) (number : Option ℕ) → i < width
    → more ≡ numbers ++ number ∷ [] → number ≡ number_at first (low + (width - i - 1))
    → numbers ++ reverse (map (number_at first) (range_with_len low (width - i))) ≡ initial
    → more ++ reverse (map (number_at first) (range_with_len low (width - (i + 1)))) ≡ initial
less_taken numbers more initial first low width i number within more_is is so_far =
    let count : width - (i + 1) ≡ width - i - 1 = omega arith in
    ap (λ numbers. numbers ++ reverse (map (number_at first) (range_with_len low (width - (i + 1))))) more_is
    ∙ append_assoc numbers (number ∷ []) (reverse (map (number_at first) (range_with_len low (width - (i + 1)))))
    ∙ (λ j. numbers ++ (is j ∷ reverse (map (number_at first) (range_with_len low (count j)))))
    ∙ ap (λ rest. numbers ++ rest) (sym (down_less first low (width - i) (omega (arith, within))))
    ∙ so_far

-- ---- one part more

pub list_more : {X : Type 0} (number : Numbering) (bits : X → List Bit) (parts : List X) (i : ℕ) (part d : X)
    (so_far more whole : List (Option ℕ)) → i < length parts → part ≡ get_or parts i d
    → more ≡ so_far ++ numbers_down number (bits part)
    → so_far ++ flat_map (λ part. numbers_down number (bits part)) (drop i parts) ≡ whole
    → more ++ flat_map (λ part. numbers_down number (bits part)) (drop (i + 1) parts) ≡ whole
list_more {X = X} number bits parts i part d so_far more whole within here more_is rest =
    let down : X → List (Option ℕ) = λ part. numbers_down number (bits part) in
    ap (λ numbers. numbers ++ flat_map down (drop (i + 1) parts)) (more_is ∙ ap (λ part. so_far ++ down part) here)
    ∙ append_assoc so_far (down (get_or parts i d)) (flat_map down (drop (i + 1) parts))
    ∙ sym (at_drop_more (λ parts. so_far ++ flat_map down parts) parts i d within)
    ∙ rest

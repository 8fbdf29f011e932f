-- Edges that are written one after another.
use Rattle.std.proofs.Common.{◌≡◌, ◌≤◌, ◌<◌, ◌+◌, ◌-◌, ℕ, List, [], ◌∷◌, ◌++◌, Option, Some, ap, sym, ◌∙◌, arith, drop, get_or, length, map, reverse, set, take}
use Rattle.std.proofs.lemmas.List.{at_drop_all, at_drop_more, length-drop, length-map, length-reverse, length-take-le, map-append, reverse-append, set_past, take_more}
use Rattle.flat_net.specs.declared.edge.Edge.{Edge}
use Rattle.flat_net.specs.Edges.{zero_edge}
use Rattle.processes.specs.Numbers.{put, written, written_from}

pub set_outside : (current : List Edge) (number : ℕ) (edge : Edge) → length current ≤ number → set current number edge ≡ current
set_outside current number edge le = set_past current number edge le

-- the last is written first
written_last : (place : ℕ) (numbers : List (Option ℕ)) (number : Option ℕ) (edges current : List Edge)
    → written_from place (numbers ++ number ∷ []) edges current
    ≡ written_from place numbers edges (put number (get_or edges (place + length numbers) zero_edge) current)
written_last place [] number edges current = ap (λ n. put number (get_or edges n zero_edge) current) {x = place} {y = place + 0} (omega arith)
written_last place (other ∷ numbers) number edges current =
    ap (put other (get_or edges place zero_edge))
    (written_last (place + 1) numbers number edges current
    ∙ ap (λ n. written_from (place + 1) numbers edges (put number (get_or edges n zero_edge) current))
    {x = place + 1 + length numbers} {y = place + length (other ∷ numbers)} (omega arith))

module _ (edges : List Edge) where
  pub down_more : (numbers : List (Option ℕ)) (i : ℕ) (number d : Option ℕ) (edge : Edge) (current more whole : List Edge) → i < length numbers
      → number ≡ get_or numbers i d → edge ≡ get_or edges (length numbers - (i + 1)) zero_edge → more ≡ put number edge current
      → written (reverse (drop i numbers)) edges current ≡ whole → written (reverse (drop (i + 1) numbers)) edges more ≡ whole
  down_more numbers i number d edge current more whole within here edge_is more_is so_far =
      let rest : List (Option ℕ) = drop (i + 1) numbers in
      let count : length numbers - (i + 1) ≡ 0 + length (reverse rest) = omega (arith, length-reverse rest, length-drop (i + 1) numbers) in
      ap (λ current. written (reverse rest) edges current)
      (more_is ∙ (λ j. put (here j) ((edge_is ∙ ap (λ n. get_or edges n zero_edge) count) j) current))
      ∙ sym (written_last 0 (reverse rest) (get_or numbers i d) edges current)
      ∙ ap (λ numbers. written numbers edges current) (sym (reverse-append (get_or numbers i d ∷ []) rest))
      ∙ sym (at_drop_more (λ numbers. written (reverse numbers) edges current) numbers i d within)
      ∙ so_far

  pub down_all : (numbers : List (Option ℕ)) (i : ℕ) (current whole : List Edge) → length numbers ≤ i
      → written (reverse (drop i numbers)) edges current ≡ whole → current ≡ whole
  down_all numbers i current whole le so_far = sym (at_drop_all (λ numbers. written (reverse numbers) edges current) numbers i le) ∙ so_far

  pub up_more : (numbers : List ℕ) (i : ℕ) (number d : ℕ) (edge : Edge) (current more whole : List Edge) → i < length numbers
      → number ≡ get_or numbers (length numbers - (i + 1)) d → edge ≡ get_or edges (length numbers - (i + 1)) zero_edge
      → more ≡ put (Some number) edge current
      → written (map Some (take (length numbers - i) numbers)) edges current ≡ whole
      → written (map Some (take (length numbers - (i + 1)) numbers)) edges more ≡ whole
  up_more numbers i number d edge current more whole within here edge_is more_is so_far =
      let left : ℕ = length numbers - (i + 1) in
      let few : List ℕ = take left numbers in
      let count : left ≡ 0 + length (map Some few) = omega (arith, length-map few Some, length-take-le left numbers (omega arith)) in
      let one_more : length numbers - i ≡ left + 1 = omega (arith, within) in
      ap (λ current. written (map Some few) edges current)
      (more_is ∙ (λ j. put (Some (here j)) ((edge_is ∙ ap (λ n. get_or edges n zero_edge) count) j) current))
      ∙ sym (written_last 0 (map Some few) (Some (get_or numbers left d)) edges current)
      ∙ ap (λ numbers. written numbers edges current)
      (sym (map-append Some few (get_or numbers left d ∷ []))
      ∙ ap (map Some) (sym (take_more numbers left d (omega (arith, within))))
      ∙ ap (λ n. map Some (take n numbers)) (sym one_more))
      ∙ so_far

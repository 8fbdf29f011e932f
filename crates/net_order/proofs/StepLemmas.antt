-- Steps of parting nodes, where what comes of them has a name.
use Rattle.std.specs.Prelude.{◌≡◌, ◌↔◌, ℕ, ◌<◌, ◌≤◌, IsTrue, List, [], ◌∷◌, ◌++◌, Bool, true, false, Some, length, refl, slice_get}
use Rattle.std.proofs.Common.{ap, arith, inl, inr, sym, ◌∙◌, subst}
use Rattle.std.proofs.lemmas.Option.{slice_get_within}
use Rattle.flat_net.specs.declared.node.Node.{Node}
use Rattle.net_loops.specs.Loops.{ReadsItself}
use Rattle.net_order.specs.Marks.{Grows, Marked, Rising, Stands}
use Rattle.net_order.specs.Partings.{AreLoops, IsParting, Parting, entered, parting_size, with_first, with_way}
use Rattle.net_order.specs.Readings.{IsPending}
use Rattle.net_order.proofs.ListLemmas.{length_more, none_stands, rises_last, rises_to, set_here, set_kept, some_same, stands_back, stands_last, unmarked_set}
use Rattle.net_order.proofs.PartLemmas.{entered_parting, last_led}

-- ---- the walk goes on

pub record WentIn (nodes : List Node) (old : Parting) (node : ℕ) (new : Parting) : Type 0 where
  pub parts : IsParting nodes new
  pub grows : Grows old.seen new.seen
  pub seen : Marked new.seen node

pub record WentOn (nodes : List Node) (old : Parting) (place : ℕ) (new : Parting) : Type 0 where
  pub parts : IsParting nodes new
  pub grows : Grows old.seen new.seen
  pub smaller : parting_size new < parting_size (with_way old place)

module _ (nodes : List Node) where
  pub went_in : (walk : Parting) (node : ℕ) → IsParting nodes walk → walk.way ≡ [] → slice_get walk.seen node ≡ Some false
      → (new : Parting) → new ≡ entered walk node → WentIn nodes walk node new
  went_in walk node is none fresh_yet new new_is =
      subst (λ one. WentIn nodes walk node one) (sym new_is)
      record {
        parts = entered_parting nodes walk node is fresh_yet (λ place from stands at. absurd (none_stands walk.way place none stands));
        grows = set_kept walk.seen node;
        seen = set_here walk.seen node (slice_get_within walk.seen node false fresh_yet);
      }

  -- what waits is a node
  pub waits_inside : (walk : Parting) → IsParting nodes walk → (place node : ℕ) → slice_get walk.waiting place ≡ Some node
      → node < length nodes
  waits_inside walk is place node at =
      subst (λ count. node < count) is.seen_count (slice_get_within walk.seen node true (is.ahead_seen place node at))

  module _ (walk : Parting) (place : ℕ) (is : IsParting nodes (with_way walk place)) (back : Parting) (back_is : back ≡ with_way walk place)
      (seen : List Bool) (seen_is : seen ≡ walk.seen) (node next : ℕ) (pending : IsPending nodes seen node next) where
    new_yet : slice_get walk.seen next ≡ Some false
    new_yet = ap (λ one. slice_get one next) (sym seen_is) ∙ pending.not_marked

    pub next_inside : (next < length back.seen) × (next < length back.places)
    next_inside =
        let inside : next < length walk.seen = slice_get_within walk.seen next false new_yet in
        subst (λ (one : Parting). (next < length one.seen) × (next < length one.places)) (sym back_is)
        (inside, omega (arith, inside, is.seen_count, is.places_count))

    pub went_on : slice_get walk.waiting place ≡ Some node → (new : Parting) → new ≡ entered back next → WentOn nodes walk place new
    went_on here new new_is =
        let same : new ≡ entered (with_way walk place) next = new_is ∙ ap (λ one. entered one next) back_is in
        subst (λ one. WentOn nodes walk place one) (sym same)
        record {
          parts =
              entered_parting nodes (with_way walk place) next is new_yet
              (last_led nodes walk place is node here next pending.reads);
          grows = set_kept walk.seen next;
          smaller =
              omega
              (arith, length_more (walk.way ++ place ∷ []) (length walk.waiting), unmarked_set walk.seen next new_yet);
        }

  -- ---- a node is not the first of its part

  pub not_first : (walk : Parting) (place : ℕ) → IsParting nodes (with_way walk place) → (mid : Parting) (first : ℕ)
      → walk ≡ with_first mid first → (first ≡ place → ⊥) → Stands walk.firsts place → ⊥
  not_first walk place is mid first same apart stands =
      let firsts : walk.firsts ≡ mid.firsts ++ first ∷ [] = ap (λ (one : Parting). one.firsts) same in
      let here : Stands walk.firsts first = subst (λ one. Stands one first) (sym firsts) (stands_last mid.firsts first first refl) in
      let before : first ≤ place = rises_to walk.way place is.way_rises first (is.firsts_way first here) in
      elim (stands_back mid.firsts first place (subst (λ one. Stands one place) firsts stands)) [
        | inl old ↦
            let less : place < first =
            rises_last mid.firsts first (subst (λ one. Rising one) firsts is.firsts_rise) place old in
            omega (arith, less, before)
        | inr now ↦ apart now
      ]

-- ---- the marks in the end

pub loop_mark : (nodes : List Node) (marks : List Bool) → AreLoops nodes marks → (looped : ℕ) → ReadsItself nodes looped → (node : ℕ)
    → node < looped → (answer : Bool) → slice_get marks node ≡ Some answer → IsTrue answer ↔ ReadsItself nodes node
loop_mark nodes marks is looped (count, (next, (reads, way))) node less answer at =
    let inside = slice_get_within nodes looped reads.node reads.there in
    let marked = is.marked node (omega (arith, inside, less)) in
    (λ yes_loop. marked.0 (at ∙ ap Some yes_loop), λ loop. some_same answer true (sym at ∙ marked.1 loop))

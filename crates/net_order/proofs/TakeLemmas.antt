-- Nodes that wait are taken, the last one first.
use Rattle.std.specs.Prelude.{◌≡◌, ◌≢◌, ℕ, ◌+◌, ◌<◌, ◌≤◌, [], ◌∷◌, ◌++◌, Bool, true, false, Some, length, refl, slice_get, slice_set}
use Rattle.std.proofs.Common.{ap, arith, inl, inr, sym, ◌∙◌, subst}
use Rattle.std.proofs.Math.ListN.{length-set}
use Rattle.std.proofs.lemmas.Option.{slice_get_within}
use Rattle.net_order.specs.Marks.{Marked}
use Rattle.net_order.specs.Partings.{HasPlaces, IsTaken, Parting, marked, with_last}
use Rattle.net_order.proofs.ListLemmas.{differ, get_kept, get_last, get_more, get_set_here, get_set_other, length_more, same_or_not, set_back, set_here, set_kept, set_other, some_same}

pub taken_none : (answer : Bool) (walk : Parting) → HasPlaces walk → IsTaken answer walk walk
taken_none answer walk is = record {
  same = refl;
  done_count = refl;
  looped_count = refl;
  grows = λ node done. done;
  kept_marks = λ node done. refl;
  done_back = λ node done. inl done;
  kept = λ place node at. at;
  ahead = is.ahead;
  rest = λ place node at less. at;
  taken = λ place node at le. let near = slice_get_within walk.waiting place node at in absurd (omega (arith, near, le));
}

-- one node more
module _ (answer : Bool) (old mid : Parting) (node : ℕ) (is : HasPlaces old) (so_far : IsTaken answer old (with_last mid node)) where
  there : slice_get (mid.waiting ++ node ∷ []) (length mid.waiting) ≡ Some node
  there = get_last mid.waiting node

  before : slice_get old.waiting (length mid.waiting) ≡ Some node
  before = so_far.kept (length mid.waiting) node there

  not_done : slice_get mid.done node ≡ Some false
  not_done = so_far.ahead (length mid.waiting) node there

  done_inside : node < length mid.done
  done_inside = slice_get_within mid.done node false not_done

  looped_inside : node < length mid.looped
  looped_inside =
      let inside = done_inside in
      omega (arith, inside, so_far.done_count, so_far.looped_count, is.done_count, is.looped_count)

  -- what was done is another node
  apart_done : (other : ℕ) → Marked old.done other → other ≢ node
  apart_done other done = λ same.
      differ (slice_get old.done other) done (ap (slice_get old.done) same ∙ is.ahead (length mid.waiting) node before)

  -- and so is what waits at another place
  apart_place : (place other : ℕ) → slice_get old.waiting place ≡ Some other → place ≢ length mid.waiting → other ≢ node
  apart_place place other at apart = λ same.
      apart
      (some_same place (length mid.waiting)
      (sym (is.placed place other at) ∙ ap (slice_get old.places) same ∙ is.placed (length mid.waiting) node before))

  more_taken : (place other : ℕ) → slice_get old.waiting place ≡ Some other → length mid.waiting ≤ place
      → Marked (slice_set mid.done node true) other × (slice_get (slice_set mid.looped node answer) other ≡ Some answer)
  more_taken place other at le = elim (same_or_not place (length mid.waiting)) [
    | inl same ↦
        let is_node : node ≡ other = some_same node other (sym before ∙ ap (slice_get old.waiting) (sym same) ∙ at) in (
          subst (λ one. Marked (slice_set mid.done node true) one) is_node (set_here mid.done node done_inside),
          subst (λ one. slice_get (slice_set mid.looped node answer) one ≡ Some answer) is_node
              (get_set_here mid.looped node answer looped_inside),
        )
    | inr apart ↦
        let taken = so_far.taken place other at (omega (arith, le, apart, length_more mid.waiting node)) in (
          set_kept mid.done node other taken.0,
          get_set_other mid.looped node other answer (apart_place place other at apart) ∙ taken.1,
        )
  ]

  taken_more : IsTaken answer old (marked mid node answer)
  taken_more = record {
    same =
        ap
        (λ (walk : Parting). record walk {
          done = slice_set mid.done node true;
          looped = slice_set mid.looped node answer;
          waiting = mid.waiting;
        })
        so_far.same;
    done_count = length-set mid.done node true ∙ so_far.done_count;
    looped_count = length-set mid.looped node answer ∙ so_far.looped_count;
    grows = λ other done. set_kept mid.done node other (so_far.grows other done);
    kept_marks = λ other done. get_set_other mid.looped node other answer (apart_done other done) ∙ so_far.kept_marks other done;
    done_back = λ other done. elim (set_back mid.done node other done) [
      | inl same ↦ inr (length mid.waiting, (before ∙ ap Some (sym same), omega arith))
      | inr mid_done ↦ elim (so_far.done_back other mid_done) [
        | inl old_done ↦ inl old_done
        | inr waits ↦ let le = waits.1.1 in inr (waits.0, (waits.1.0, omega (arith, le, length_more mid.waiting node)))
      ]
    ];
    kept = λ place other at. so_far.kept place other (get_kept mid.waiting (node ∷ []) place other at);
    ahead = λ place other at.
        let near = slice_get_within mid.waiting place other at in
        let longer = get_kept mid.waiting (node ∷ []) place other at in
        set_other mid.done node other (apart_place place other (so_far.kept place other longer) (λ same. omega (arith, near, same)))
        ∙ so_far.ahead place other longer;
    rest = λ place other at less.
        elim (get_more mid.waiting node place other (so_far.rest place other at (omega (arith, less, length_more mid.waiting node)))) [
          | inl here ↦ here
          | inr now ↦ absurd (omega (arith, less, now.0))
        ];
    taken = more_taken;
  }

-- ---- the same, where what comes of it has a name

pub record TookOne (answer : Bool) (place : ℕ) (old before new : Parting) : Type 0 where
  pub taken : IsTaken answer old new
  pub within : place ≤ length new.waiting
  pub smaller : length new.waiting < length before.waiting

pub took_one : (answer : Bool) (place : ℕ) (old longer mid new : Parting) (node : ℕ) → HasPlaces old → IsTaken answer old longer
    → place < length longer.waiting → longer ≡ with_last mid node → new ≡ marked mid node answer → TookOne answer place old longer new
took_one answer place old longer mid new node is so_far less longer_is new_is =
    let more : length longer.waiting ≡ length mid.waiting + 1 =
    ap (λ (walk : Parting). length walk.waiting) longer_is ∙ length_more mid.waiting node in
    subst (λ one. TookOne answer place old longer one) (sym new_is)
    record {
      taken = taken_more answer old mid node is (subst (λ one. IsTaken answer old one) longer_is so_far);
      within = omega (arith, less, more);
      smaller = omega (arith, more);
    }

-- the node that is taken is within the marks
pub took_inside : (answer : Bool) (old longer mid : Parting) (node : ℕ) → HasPlaces old → IsTaken answer old longer
    → longer ≡ with_last mid node → (node < length mid.done) × (node < length mid.looped)
took_inside answer old longer mid node is so_far same =
    let now : IsTaken answer old (with_last mid node) = subst (λ one. IsTaken answer old one) same so_far in
    (done_inside answer old mid node is now, looped_inside answer old mid node is now)

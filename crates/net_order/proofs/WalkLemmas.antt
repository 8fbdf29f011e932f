-- Steps of placing nodes.
use Rattle.std.specs.Prelude.{◌≡◌, ◌≢◌, ℕ, zero, suc, ◌+◌, ◌-◌, ◌<◌, List, [], ◌∷◌, ◌++◌, true, false, Some, length, slice_get, slice_set}
use Rattle.std.proofs.Common.{ap, arith, get_or, inl, inr, sym, ◌∙◌, subst}
use Rattle.std.proofs.Math.ListN.{length-set}
use Rattle.std.proofs.lemmas.List.{length-replicate}
use Rattle.std.proofs.lemmas.Option.{none-some, slice_get-get_or, slice_get_within}
use Rattle.flat_net.specs.declared.node.Node.{Node}
use Rattle.net_loops.specs.Loops.{Leads, Reads, ReadsItself}
use Rattle.net_loops.proofs.LoopLemmas.{leads_more}
use Rattle.net_order.specs.Marks.{Grows, Marked, Stands}
use Rattle.net_order.specs.Readings.{IsPending}
use Rattle.net_order.specs.Walks.{ArePlaced, IsWalk, Progress, begun, finished, fresh, size_of, with_top}
use Rattle.net_order.proofs.ListLemmas.{differ, get_either, get_kept, get_last, get_more, get_none, length_more, set_back, set_here, set_kept, set_other, unmarked_set}

module _ (nodes : List Node) where
  pub fresh_walk : (count : ℕ) → count ≡ length nodes → IsWalk nodes (fresh count)
  fresh_walk count is = record {
    seen_count = length-replicate count false ∙ is;
    done_count = length-replicate count false ∙ is;
    placed = record {
      stands = λ node marked. absurd (get_none count node marked);
      marked = λ place node at. absurd (none-some node at);
      once = λ first second node at other. absurd (none-some node at);
      after = λ place node next at reads. absurd (none-some node at);
    };
    known = λ node marked. absurd (get_none count node marked);
    done_seen = λ node marked. marked;
    ahead_seen = λ place node at. absurd (none-some node at);
    ahead = λ place node at. absurd (none-some node at);
    once = λ first second node at other. absurd (none-some node at);
    way = λ place node next at then. absurd (none-some node at);
  }

  -- ---- a node begins

  -- the last node of the way reads this one
  abbrev pub Follows : List ℕ → ℕ → Type 0
  Follows stack node = (place last : ℕ) → suc place ≡ length stack → slice_get stack place ≡ Some last → Reads nodes last node

  module _ (walk : Progress) (node : ℕ) (is : IsWalk nodes walk) (new : slice_get walk.seen node ≡ Some false)
      (follows : Follows walk.stack node) where
    inside : node < length walk.seen
    inside = slice_get_within walk.seen node false new

    not_done : slice_get walk.done node ≡ Some false
    not_done = elim (get_either walk.done node (subst (λ count. node < count) (is.seen_count ∙ sym is.done_count) inside)) [
      | inl done ↦ differ (slice_get walk.seen node) (is.done_seen node done) new
      | inr open_yet ↦ open_yet
    ]

    pub begun_walk : IsWalk nodes (begun walk node)
    begun_walk = record {
      seen_count = length-set walk.seen node true ∙ is.seen_count;
      done_count = is.done_count;
      placed = is.placed;
      known = λ other marked. elim (set_back walk.seen node other marked) [
        | inl same ↦ inr (length walk.stack, get_last walk.stack node ∙ ap Some (sym same))
        | inr old ↦ elim (is.known other old) [
          | inl done ↦ inl done
          | inr stands ↦ inr (stands.0, get_kept walk.stack (node ∷ []) stands.0 other stands.1)
        ]
      ];
      done_seen = λ other done. set_kept walk.seen node other (is.done_seen other done);
      ahead_seen = λ place other at. elim (get_more walk.stack node place other at) [
        | inl old ↦ set_kept walk.seen node other (is.ahead_seen place other old)
        | inr now ↦ subst (λ one. Marked (slice_set walk.seen node true) one) now.1 (set_here walk.seen node inside)
      ];
      ahead = λ place other at. elim (get_more walk.stack node place other at) [
        | inl old ↦ is.ahead place other old
        | inr now ↦ subst (λ one. slice_get walk.done one ≡ Some false) now.1 not_done
      ];
      once = λ first second other at then. elim (get_more walk.stack node first other at) [
        | inl old ↦ elim (get_more walk.stack node second other then) [
          | inl older ↦ is.once first second other old older
          | inr now ↦
              differ (slice_get walk.seen other) (is.ahead_seen first other old)
              (subst (λ one. slice_get walk.seen one ≡ Some false) now.1 new)
        ]
        | inr now ↦ elim (get_more walk.stack node second other then) [
          | inl old ↦
              differ (slice_get walk.seen other) (is.ahead_seen second other old)
              (subst (λ one. slice_get walk.seen one ≡ Some false) now.1 new)
          | inr also ↦ now.0 ∙ sym also.0
        ]
      ];
      way = λ place other next at then. elim (get_more walk.stack node place other at) [
        | inl old ↦ elim (get_more walk.stack node (suc place) next then) [
          | inl older ↦ is.way place other next old older
          | inr now ↦ subst (λ one. Reads nodes other one) now.1 (follows place other now.0 old)
        ]
        | inr now ↦ elim (get_more walk.stack node (suc place) next then) [
          | inl old ↦ let far = slice_get_within walk.stack (suc place) next old in absurd (omega (arith, far, now.0))
          | inr also ↦ absurd (omega (arith, now.0, also.0))
        ]
      ];
    }

  -- the first node of a way
  pub first_follows : (stack : List ℕ) (node : ℕ) → stack ≡ [] → Follows stack node
  first_follows stack node none place last is at = absurd (omega (arith, is, ap length none))

  -- a node behind one that reads it
  pub next_follows : (stack : List ℕ) (last node : ℕ) → Reads nodes last node → Follows (stack ++ last ∷ []) node
  next_follows stack last node reads place other is at = elim (get_more stack last place other at) [
    | inl old ↦ let far = slice_get_within stack place other old in absurd (omega (arith, far, is, length_more stack last))
    | inr now ↦ subst (λ one. Reads nodes one node) now.1 reads
  ]

  -- ---- a node is placed

  module _ (walk : Progress) (node : ℕ) (is : IsWalk nodes (with_top walk node))
      (all : (next : ℕ) → Reads nodes node next → Marked walk.done next) where
    top : slice_get (walk.stack ++ node ∷ []) (length walk.stack) ≡ Some node
    top = get_last walk.stack node

    top_open : slice_get walk.done node ≡ Some false
    top_open = is.ahead (length walk.stack) node top

    pub top_inside : node < length walk.done
    top_inside = slice_get_within walk.done node false top_open

    kept : (place other : ℕ) → slice_get walk.stack place ≡ Some other → slice_get (walk.stack ++ node ∷ []) place ≡ Some other
    kept place other at = get_kept walk.stack (node ∷ []) place other at

    finished_placed : ArePlaced nodes (slice_set walk.done node true) (walk.order ++ node ∷ [])
    finished_placed = record {
      stands = λ other marked. elim (set_back walk.done node other marked) [
        | inl same ↦ (length walk.order, get_last walk.order node ∙ ap Some (sym same))
        | inr old ↦ let stands = is.placed.stands other old in (stands.0, get_kept walk.order (node ∷ []) stands.0 other stands.1)
      ];
      marked = λ place other at. elim (get_more walk.order node place other at) [
        | inl old ↦ set_kept walk.done node other (is.placed.marked place other old)
        | inr now ↦ subst (λ one. Marked (slice_set walk.done node true) one) now.1 (set_here walk.done node top_inside)
      ];
      once = λ first second other at then. elim (get_more walk.order node first other at) [
        | inl old ↦ elim (get_more walk.order node second other then) [
          | inl older ↦ is.placed.once first second other old older
          | inr now ↦
              differ (slice_get walk.done other) (is.placed.marked first other old)
              (subst (λ one. slice_get walk.done one ≡ Some false) now.1 top_open)
        ]
        | inr now ↦ elim (get_more walk.order node second other then) [
          | inl old ↦
              differ (slice_get walk.done other) (is.placed.marked second other old)
              (subst (λ one. slice_get walk.done one ≡ Some false) now.1 top_open)
          | inr also ↦ now.0 ∙ sym also.0
        ]
      ];
      after = λ place other next at reads. elim (get_more walk.order node place other at) [
        | inl old ↦
            let before = is.placed.after place other next old reads in
            (before.0, (before.1.0, get_kept walk.order (node ∷ []) before.0 next before.1.1))
        | inr now ↦
            let done : Marked walk.done next = all next (subst (λ one. Reads nodes one next) (sym now.1) reads) in
            let stands : Stands walk.order next = is.placed.stands next done in
            let far = slice_get_within walk.order stands.0 next stands.1 in
            (stands.0, (omega (arith, far, now.0), get_kept walk.order (node ∷ []) stands.0 next stands.1))
      ];
    }

    pub finished_walk : IsWalk nodes (finished walk node)
    finished_walk = record {
      seen_count = is.seen_count;
      done_count = length-set walk.done node true ∙ is.done_count;
      placed = finished_placed;
      known = λ other marked. elim (is.known other marked) [
        | inl done ↦ inl (set_kept walk.done node other done)
        | inr stands ↦ elim (get_more walk.stack node stands.0 other stands.1) [
          | inl old ↦ inr (stands.0, old)
          | inr now ↦ inl (subst (λ one. Marked (slice_set walk.done node true) one) now.1 (set_here walk.done node top_inside))
        ]
      ];
      done_seen = λ other done. elim (set_back walk.done node other done) [
        | inl same ↦ subst (λ one. Marked walk.seen one) (sym same) (is.ahead_seen (length walk.stack) node top)
        | inr old ↦ is.done_seen other old
      ];
      ahead_seen = λ place other at. is.ahead_seen place other (kept place other at);
      ahead = λ place other at.
          let apart : other ≢ node = λ same.
          let far = slice_get_within walk.stack place other at in
          let here : place ≡ length walk.stack = is.once place (length walk.stack) other (kept place other at) (top ∙ ap Some (sym same)) in
          omega (arith, far, here) in
          set_other walk.done node other apart ∙ is.ahead place other (kept place other at);
      once = λ first second other at then. is.once first second other (kept first other at) (kept second other then);
      way = λ place other next at then. is.way place other next (kept place other at) (kept (suc place) next then);
    }

  -- ---- the way comes back

  way_leads : (stack : List ℕ)
      → ((place node next : ℕ) → slice_get stack place ≡ Some node → slice_get stack (suc place) ≡ Some next → Reads nodes node next)
      → (count place from to : ℕ) → slice_get stack place ≡ Some from → slice_get stack (place + count) ≡ Some to
      → Leads nodes count from to
  way_leads stack way zero place from to at then =
      some_of from to (sym at ∙ sym (ap (slice_get stack) (let e : place + 0 ≡ place = omega arith in e)) ∙ then)
    where
      some_of : (a b : ℕ) → Some a ≡ Some b → a ≡ b
      some_of a b e = cc
  way_leads stack way (suc count) place from to at then =
      let far = slice_get_within stack (place + suc count) to then in
      let mid : ℕ = get_or stack (suc place) 0 in
      let there : slice_get stack (suc place) ≡ Some mid = slice_get-get_or stack (suc place) 0 (omega (arith, far)) in
      let moved : suc place + count ≡ place + suc count = omega arith in
      (mid, (way place from mid at there, way_leads stack way count (suc place) mid to there (ap (slice_get stack) moved ∙ then)))

  pub loop_found : (walk : Progress) (node next : ℕ) → IsWalk nodes (with_top walk node) → Reads nodes node next
      → slice_get walk.done next ≡ Some false
      → Marked walk.seen next → ReadsItself nodes next
  loop_found walk node next is reads open_yet seen = elim (is.known next seen) [
    | inl done ↦ differ (slice_get walk.done next) done open_yet
    | inr stands ↦
        let far = slice_get_within (walk.stack ++ node ∷ []) stands.0 next stands.1 in
        let count : ℕ = length walk.stack - stands.0 in
        let end : stands.0 + count ≡ length walk.stack = omega (arith, far, length_more walk.stack node) in
        let leads : Leads nodes count next node =
        way_leads (walk.stack ++ node ∷ []) is.way count stands.0 next node stands.1
        (ap (slice_get (walk.stack ++ node ∷ [])) end ∙ get_last walk.stack node) in
        (count, leads_more nodes count next node next leads reads)
  ]

-- ---- the measure

pub finished_smaller : (walk : Progress) (node : ℕ) → size_of (finished walk node) < size_of (with_top walk node)
finished_smaller walk node = omega (arith, length_more walk.stack node)

pub begun_smaller : (walk : Progress) (node next : ℕ) → slice_get walk.seen next ≡ Some false
    → size_of (begun (with_top walk node) next) < size_of (with_top walk node)
begun_smaller walk node next new =
    omega (arith, length_more (walk.stack ++ node ∷ []) next, unmarked_set walk.seen next new)

-- ---- the same, where what comes of it has a name

pub record Went (nodes : List Node) (old : Progress) (last : ℕ) (new : Progress) : Type 0 where
  pub walk : IsWalk nodes new
  pub grows : Grows old.seen new.seen
  pub smaller : size_of new < size_of (with_top old last)

module _ (nodes : List Node) (walk : Progress) (last : ℕ) (is : IsWalk nodes (with_top walk last)) where
  pub last_inside : last < length nodes
  last_inside =
      subst (λ count. last < count) is.done_count
      (slice_get_within walk.done last false (is.ahead (length walk.stack) last (get_last walk.stack last)))

  pub went_on : (next : ℕ) → IsPending nodes walk.done last next → slice_get walk.seen next ≡ Some false → (back new : Progress)
      → back ≡ with_top walk last → new ≡ begun back next → Went nodes walk last new
  went_on next pending fresh_yet back new back_is new_is =
      let same : new ≡ begun (with_top walk last) next = new_is ∙ ap (λ one. begun one next) back_is in
      subst (λ one. Went nodes walk last one) (sym same)
      record {
        walk = begun_walk nodes (with_top walk last) next is fresh_yet (next_follows nodes walk.stack last next pending.reads);
        grows = set_kept walk.seen next;
        smaller = begun_smaller walk last next fresh_yet;
      }

  pub pending_inside : (next : ℕ) → IsPending nodes walk.done last next → (back : Progress) → back ≡ with_top walk last
      → next < length back.seen
  pending_inside next pending back back_is =
      subst (λ (one : Progress). next < length one.seen) (sym back_is)
      (let inside = slice_get_within walk.done next false pending.not_marked in omega (arith, inside, is.done_count, is.seen_count))

  pub went_back : ((next : ℕ) → Reads nodes last next → Marked walk.done next) → (new : Progress) → new ≡ finished walk last
      → Went nodes walk last new
  went_back all new new_is =
      subst (λ one. Went nodes walk last one) (sym new_is)
      record {
        walk = finished_walk nodes walk last is all;
        grows = λ number marked. marked;
        smaller = finished_smaller walk last;
      }

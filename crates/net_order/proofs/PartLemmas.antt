-- Steps of parting nodes.
use Rattle.std.specs.Prelude.{◌≡◌, ◌≢◌, ◌⊎◌, ◌↔◌, ℕ, zero, suc, ◌<◌, ◌≤◌, List, [], ◌∷◌, ◌++◌, Bool, true, false, Some, length, refl, slice_get, slice_set}
use Rattle.std.proofs.Common.{ap, arith, inl, inr, sym, ◌∙◌, subst}
use Rattle.std.proofs.Math.ListN.{length-set}
use Rattle.std.proofs.lemmas.List.{length-replicate}
use Rattle.std.proofs.lemmas.Option.{none-some, slice_get_within}
use Rattle.flat_net.specs.declared.node.Node.{Node}
use Rattle.net_loops.specs.Loops.{Reads, ReadsItself}
use Rattle.net_order.specs.Marks.{Marked, Stands}
use Rattle.net_order.specs.Partings.{AreLoops, HasPlaces, IsCut, IsLed, IsLow, IsParting, IsTaken, IsWithin, Parting, StaysIn, TurnsBack, entered, unparted, with_first, with_firsts, with_way}
use Rattle.net_order.specs.Readings.{IsPending}
use Rattle.net_order.proofs.LeadLemmas.{IsRead, led_read, led_same, led_then, led_then_read, read_led, read_then_led, stays}
use Rattle.net_order.proofs.ListLemmas.{differ, get_either, get_kept, get_more, get_none, get_set_here, get_set_other, length_more, none_stands, rises_front, rises_last, rises_more, rises_to, set_back, set_here, set_kept, some_same, stands_back, stands_kept, stands_last}

pub parting_places : (nodes : List Node) (walk : Parting) → IsParting nodes walk → HasPlaces walk
parting_places nodes walk is = record {
  done_count = is.done_count ∙ sym is.seen_count;
  looped_count = is.looped_count ∙ sym is.seen_count;
  places_count = is.places_count ∙ sym is.seen_count;
  known = is.known;
  ahead = is.ahead;
  placed = is.placed;
}

less_or_le : (a b : ℕ) → (a < b) ⊎ (b ≤ a)
less_or_le a zero = inr (omega arith)
less_or_le zero (suc b) = inl (omega arith)
less_or_le (suc a) (suc b) = elim (less_or_le a b) [ inl less ↦ inl (omega arith) | inr le ↦ inr (omega arith) ]

module _ (nodes : List Node) where
  pub unparted_parting : (count : ℕ) → count ≡ length nodes → IsParting nodes (unparted count)
  unparted_parting count is = record {
    seen_count = length-replicate count false ∙ is;
    done_count = length-replicate count false ∙ is;
    looped_count = length-replicate count false ∙ is;
    places_count = length-replicate count 0 ∙ is;
    done_seen = λ node marked. marked;
    closed = λ node next marked reads. absurd (get_none count node marked);
    marks = λ node marked. absurd (get_none count node marked);
    known = λ node marked. absurd (get_none count node marked);
    ahead_seen = λ place node at. absurd (none-some node at);
    ahead = λ place node at. absurd (none-some node at);
    placed = λ place node at. absurd (none-some node at);
    way_rises = λ first second lower upper at then less. absurd (none-some lower at);
    way_inside = λ place stands. absurd (none-some place stands.1);
    leads = λ place other from to stands le at then. absurd (none-some from at);
    firsts_rise = λ first second lower upper at then less. absurd (none-some lower at);
    firsts_way = λ first stands. stands;
    back = λ place node at. absurd (none-some node at);
    left = λ place node at. absurd (none-some node at);
  }

  -- ---- the walk comes to a node

  module _ (walk : Parting) (node : ℕ) (is : IsParting nodes walk) (new : slice_get walk.seen node ≡ Some false)
      (led : (place from : ℕ) → Stands walk.way place → slice_get walk.waiting place ≡ Some from → IsLed nodes from node) where
    count : ℕ
    count = length walk.waiting

    inside : node < length walk.seen
    inside = slice_get_within walk.seen node false new

    not_done : slice_get walk.done node ≡ Some false
    not_done = elim (get_either walk.done node (subst (λ n. node < n) (is.seen_count ∙ sym is.done_count) inside)) [
      | inl done ↦ differ (slice_get walk.seen node) (is.done_seen node done) new
      | inr waits ↦ waits
    ]

    apart : (place other : ℕ) → slice_get walk.waiting place ≡ Some other → other ≢ node
    apart place other at = λ same.
        differ (slice_get walk.seen other) (is.ahead_seen place other at) (ap (slice_get walk.seen) same ∙ new)

    within_more : (place before : ℕ) → place < length walk.waiting → IsWithin walk.firsts place before
        → IsWithin (walk.firsts ++ length walk.waiting ∷ []) place before
    within_more place before less within first stands le = elim (stands_back walk.firsts (length walk.waiting) first stands) [
      | inl old ↦ within first old le
      | inr now ↦ absurd (omega arith)
    ]

    entered_leads : (place other from to : ℕ) → Stands (walk.way ++ length walk.waiting ∷ []) place → place ≤ other
        → slice_get (walk.waiting ++ node ∷ []) place ≡ Some from → slice_get (walk.waiting ++ node ∷ []) other ≡ Some to
        → IsLed nodes from to
    entered_leads place other from to stands le at then = elim (get_more walk.waiting node place from at) [
      | inl old ↦
          let near = slice_get_within walk.waiting place from old in
          elim (stands_back walk.way (length walk.waiting) place stands) [
            | inl on ↦ elim (get_more walk.waiting node other to then) [
              | inl older ↦ is.leads place other from to on le old older
              | inr now ↦ subst (λ one. IsLed nodes from one) now.1 (led place from on old)
            ]
            | inr same ↦ absurd (omega (arith, near, same))
          ]
      | inr here ↦ elim (get_more walk.waiting node other to then) [
        | inl older ↦ let near = slice_get_within walk.waiting other to older in absurd (omega (arith, near, here.0, le))
        | inr now ↦ led_same nodes from to (sym here.1 ∙ now.1)
      ]
    ]

    entered_back : (place other : ℕ) → slice_get (walk.waiting ++ node ∷ []) place ≡ Some other
        → Stands (walk.firsts ++ length walk.waiting ∷ []) place
        ⊎ TurnsBack nodes (walk.waiting ++ node ∷ []) (walk.firsts ++ length walk.waiting ∷ []) place other
    entered_back place other at = elim (get_more walk.waiting node place other at) [
      | inl old ↦ elim (is.back place other old) [
        | inl on ↦ inl (stands_kept walk.firsts (length walk.waiting) place on)
        | inr turns ↦ inr
            record {
              before = turns.before;
              earlier = turns.earlier;
              lower = turns.lower;
              there = get_kept walk.waiting (node ∷ []) turns.before turns.earlier turns.there;
              led = turns.led;
              within = within_more place turns.before (slice_get_within walk.waiting place other old) turns.within;
            }
      ]
      | inr now ↦ inl (stands_last walk.firsts (length walk.waiting) place (sym now.0))
    ]

    entered_left : (place other : ℕ) → slice_get (walk.waiting ++ node ∷ []) place ≡ Some other
        → Stands (walk.way ++ length walk.waiting ∷ []) place
        ⊎ ((next : ℕ) → Reads nodes other next →
        StaysIn walk.done (walk.waiting ++ node ∷ []) (walk.firsts ++ length walk.waiting ∷ []) place next)
    entered_left place other at = elim (get_more walk.waiting node place other at) [
      | inl old ↦ elim (is.left place other old) [
        | inl on ↦ inl (stands_kept walk.way (length walk.waiting) place on)
        | inr all ↦ inr (λ next reads. elim (all next reads) [
          | inl done ↦ inl done
          | inr waits ↦ inr (
            waits.0,
            (
              get_kept walk.waiting (node ∷ []) waits.0 next waits.1.0,
              within_more place waits.0 (slice_get_within walk.waiting place other old) waits.1.1,
            ),
          )
        ])
      ]
      | inr now ↦ inl (stands_last walk.way (length walk.waiting) place (sym now.0))
    ]

    pub entered_parting : IsParting nodes (entered walk node)
    entered_parting = record {
      seen_count = length-set walk.seen node true ∙ is.seen_count;
      done_count = is.done_count;
      looped_count = is.looped_count;
      places_count = length-set walk.places node (length walk.waiting) ∙ is.places_count;
      done_seen = λ other done. set_kept walk.seen node other (is.done_seen other done);
      closed = is.closed;
      marks = is.marks;
      known = λ other marked. elim (set_back walk.seen node other marked) [
        | inl same ↦ inr (stands_last walk.waiting node other (sym same))
        | inr old ↦ elim (is.known other old) [
          | inl done ↦ inl done
          | inr stands ↦ inr (stands_kept walk.waiting node other stands)
        ]
      ];
      ahead_seen = λ place other at. elim (get_more walk.waiting node place other at) [
        | inl old ↦ set_kept walk.seen node other (is.ahead_seen place other old)
        | inr now ↦ subst (λ one. Marked (slice_set walk.seen node true) one) now.1 (set_here walk.seen node inside)
      ];
      ahead = λ place other at. elim (get_more walk.waiting node place other at) [
        | inl old ↦ is.ahead place other old
        | inr now ↦ subst (λ one. slice_get walk.done one ≡ Some false) now.1 not_done
      ];
      placed = λ place other at. elim (get_more walk.waiting node place other at) [
        | inl old ↦
            get_set_other walk.places node other (length walk.waiting) (apart place other old) ∙ is.placed place other old
        | inr now ↦
            ap (slice_get (slice_set walk.places node (length walk.waiting))) (sym now.1)
            ∙ get_set_here walk.places node (length walk.waiting)
            (subst (λ n. node < n) (is.seen_count ∙ sym is.places_count) inside)
            ∙ ap Some (sym now.0)
      ];
      way_rises = rises_more walk.way (length walk.waiting) is.way_rises is.way_inside;
      way_inside = λ place stands. elim (stands_back walk.way (length walk.waiting) place stands) [
        | inl old ↦ let less = is.way_inside place old in omega (arith, less, length_more walk.waiting node)
        | inr now ↦ omega (arith, now, length_more walk.waiting node)
      ];
      leads = entered_leads;
      firsts_rise =
          rises_more walk.firsts (length walk.waiting) is.firsts_rise
          (λ first stands. is.way_inside first (is.firsts_way first stands));
      firsts_way = λ first stands. elim (stands_back walk.firsts (length walk.waiting) first stands) [
        | inl old ↦ stands_kept walk.way (length walk.waiting) first (is.firsts_way first old)
        | inr now ↦ stands_last walk.way (length walk.waiting) first now
      ];
      back = entered_back;
      left = entered_left;
    }

  -- ---- the last node of the way

  module _ (walk : Parting) (place : ℕ) (is : IsParting nodes (with_way walk place)) where
    on_way : Stands (walk.way ++ place ∷ []) place
    on_way = stands_last walk.way place place refl

    pub place_inside : place < length walk.waiting
    place_inside = is.way_inside place on_way

    pub last_led : (node : ℕ) → slice_get walk.waiting place ≡ Some node → (next : ℕ) → Reads nodes node next
        → (other from : ℕ) → Stands (walk.way ++ place ∷ []) other → slice_get walk.waiting other ≡ Some from → IsLed nodes from next
    last_led node here next reads other from stands at =
        let led =
        led_read nodes from node next
        (is.leads other place from node stands (rises_to walk.way place is.way_rises other stands) at here) reads in
        (suc led.0, led.1)

    -- ---- parts are joined

    module _ (node : ℕ) (here : slice_get walk.waiting place ≡ Some node) (low : ℕ) (is_low : IsLow nodes walk place node low)
        (firsts : List ℕ)
        (cut : IsCut low walk.firsts firsts) where
      cut_back : (other from : ℕ) → slice_get walk.waiting other ≡ Some from
          → Stands firsts other ⊎ TurnsBack nodes walk.waiting firsts other from
      cut_back other from at = elim (is.back other from at) [
        | inl on ↦ elim (less_or_le low other) [
          | inr le ↦ inl (cut.rest other on le)
          | inl less ↦
              let stands = is.firsts_way other on in
              let before = rises_to walk.way place is.way_rises other stands in
              elim is_low.one [
                | inl same ↦ absurd (omega (arith, less, before, same))
                | inr next ↦ inr
                    record {
                      before = low;
                      earlier = next.0;
                      lower = less;
                      there = next.1.1;
                      led = last_led node here next.0 next.1.0 other from stands at;
                      within = λ first stays le. cut.below first stays;
                    }
              ]
        ]
        | inr turns ↦ inr
            record {
              before = turns.before;
              earlier = turns.earlier;
              lower = turns.lower;
              there = turns.there;
              led = turns.led;
              within = λ first stands le. turns.within first (cut.kept first stands) le;
            }
      ]

      pub cut_parting : IsParting nodes (with_way (with_firsts walk firsts) place)
      cut_parting = record {
        seen_count = is.seen_count;
        done_count = is.done_count;
        looped_count = is.looped_count;
        places_count = is.places_count;
        done_seen = is.done_seen;
        closed = is.closed;
        marks = is.marks;
        known = is.known;
        ahead_seen = is.ahead_seen;
        ahead = is.ahead;
        placed = is.placed;
        way_rises = is.way_rises;
        way_inside = is.way_inside;
        leads = is.leads;
        firsts_rise = cut.rises;
        firsts_way = λ first stands. is.firsts_way first (cut.kept first stands);
        back = cut_back;
        left = λ other from at. elim (is.left other from at) [
          | inl on ↦ inl on
          | inr all ↦ inr (λ next reads. elim (all next reads) [
            | inl done ↦ inl done
            | inr waits ↦ inr
                (waits.0, (waits.1.0, λ first stands le. waits.1.1 first (cut.kept first stands) le))
          ])
        ];
      }

      pub cut_stays : (next : ℕ) → Reads nodes node next → StaysIn walk.done walk.waiting firsts place next
      cut_stays next reads = elim (is_low.all next reads) [
        | inl done ↦ inl done
        | inr waits ↦ inr
            (waits.0, (waits.1.0, λ first stands le. let below = cut.below first stands in let far = waits.1.1 in omega (arith, below, far)))
      ]

    -- ---- a node is left that is not the first of its part

    module _ (node : ℕ) (here : slice_get walk.waiting place ≡ Some node)
        (stays_in : (next : ℕ) → Reads nodes node next → StaysIn walk.done walk.waiting walk.firsts place next)
        (not_first : Stands walk.firsts place → ⊥) where
      pub left_parting : IsParting nodes walk
      left_parting = record {
        seen_count = is.seen_count;
        done_count = is.done_count;
        looped_count = is.looped_count;
        places_count = is.places_count;
        done_seen = is.done_seen;
        closed = is.closed;
        marks = is.marks;
        known = is.known;
        ahead_seen = is.ahead_seen;
        ahead = is.ahead;
        placed = is.placed;
        way_rises = rises_front walk.way place is.way_rises;
        way_inside = λ other stands. is.way_inside other (stands_kept walk.way place other stands);
        leads = λ other behind from to stands. is.leads other behind from to (stands_kept walk.way place other stands);
        firsts_rise = is.firsts_rise;
        firsts_way = λ first stands. elim (stands_back walk.way place first (is.firsts_way first stands)) [
          | inl old ↦ old
          | inr same ↦ absurd (not_first (subst (λ one. Stands walk.firsts one) (sym same) stands))
        ];
        back = is.back;
        left = λ other from at. elim (is.left other from at) [
          | inl on ↦ elim (stands_back walk.way place other on) [
            | inl old ↦ inl old
            | inr same ↦
                let is_node : node ≡ from = some_same node from (sym here ∙ ap (slice_get walk.waiting) same ∙ at) in
                inr (λ next reads.
                subst (λ one. StaysIn walk.done walk.waiting walk.firsts one next) same
                (stays_in next (subst (λ one. Reads nodes one next) (sym is_node) reads)))
          ]
          | inr all ↦ inr all
        ];
      }

  -- ---- a part is taken

  module _ (walk : Parting) (place : ℕ) (is : IsParting nodes (with_way (with_first walk place) place))
      (node : ℕ) (here : slice_get walk.waiting place ≡ Some node)
      (stays_in : (next : ℕ) → Reads nodes node next → StaysIn walk.done walk.waiting (walk.firsts ++ place ∷ []) place next) where
    at_end : Stands (walk.way ++ place ∷ []) place
    at_end = stands_last walk.way place place refl

    is_first : Stands (walk.firsts ++ place ∷ []) place
    is_first = stands_last walk.firsts place place refl

    -- what stands at a place where the way is, and not before the part, is its first node
    only_first : (other from : ℕ) → Stands (walk.way ++ place ∷ []) other → place ≤ other → slice_get walk.waiting other ≡ Some from
        → node ≡ from
    only_first other from stands le at =
        let before = rises_to walk.way place is.way_rises other stands in
        let same : place ≡ other = omega arith in
        some_same node from (sym here ∙ ap (slice_get walk.waiting) same ∙ at)

    -- each node of the part leads to the first one
    leads_back : (bound other from : ℕ) → other < bound → place ≤ other → slice_get walk.waiting other ≡ Some from → IsLed nodes from node
    leads_back zero other from less le at = absurd (omega arith)
    leads_back (suc bound) other from less le at = elim (is.back other from at) [
      | inl on ↦ led_same nodes from node (sym (only_first other from (is.firsts_way other on) le at))
      | inr turns ↦
          let lower = turns.lower in
          led_then nodes from turns.earlier node turns.led
          (leads_back bound turns.before turns.earlier (omega (arith, lower, less)) (turns.within place is_first le) turns.there)
    ]

    leads_to : (other from : ℕ) → place ≤ other → slice_get walk.waiting other ≡ Some from → IsLed nodes node from
    leads_to other from le at = is.leads place other node from at_end le here at

    -- what a node of the part reads is done or in the part
    part_reads : (other from : ℕ) → place ≤ other → slice_get walk.waiting other ≡ Some from → (next : ℕ) → Reads nodes from next
        → Marked walk.done next ⊎ ((behind : ℕ) × ((slice_get walk.waiting behind ≡ Some next) × (place ≤ behind)))
    part_reads other from le at next reads = elim (is.left other from at) [
      | inl on ↦
          let same = only_first other from on le at in
          elim (stays_in next (subst (λ one. Reads nodes one next) (sym same) reads)) [
            | inl done ↦ inl done
            | inr waits ↦ inr (waits.0, (waits.1.0, waits.1.1 place is_first (omega arith)))
          ]
      | inr all ↦ elim (all next reads) [
        | inl done ↦ inl done
        | inr waits ↦ inr (waits.0, (waits.1.0, waits.1.1 place is_first le))
      ]
    ]

    -- where the first node reads one of the part, each node of the part reads itself
    part_loops : (other from : ℕ) → place ≤ other → slice_get walk.waiting other ≡ Some from → (next : ℕ)
        → IsPending nodes walk.done node next → IsRead nodes from from
    part_loops other from le at next pending = elim (part_reads place node (omega arith) here next pending.reads) [
      | inl done ↦ differ (slice_get walk.done next) done pending.not_marked
      | inr waits ↦
          let behind = waits.1.1 in
          let near = slice_get_within walk.waiting waits.0 next waits.1.0 in
          let around = read_led nodes node next node pending.reads
          (leads_back (length walk.waiting) waits.0 next near behind waits.1.0) in
          let far = slice_get_within walk.waiting other from at in
          led_then_read nodes from node from (leads_back (length walk.waiting) other from far le at)
          (read_then_led nodes node node from around (leads_to other from le at))
    ]

    -- where it reads only what is done, no node of the part does
    part_rests : (other from : ℕ) → place ≤ other → slice_get walk.waiting other ≡ Some from
        → ((next : ℕ) → Reads nodes node next → Marked walk.done next) → IsRead nodes from from → ⊥
    part_rests other from le at all loop =
        by (led_then_read nodes node from from (leads_to other from le at) loop)
      where
        by : IsRead nodes node from → ⊥
        by (count, (next, (reads, way))) =
            differ (slice_get walk.done from) (stays nodes (λ one. Marked walk.done one) is.closed count next from (all next reads) way)
            (is.ahead other from at)

    module _ (answer : Bool) (answered : (answer ≡ true) ↔ ((next : ℕ) × IsPending nodes walk.done node next)) where
      all_done : answer ≡ false → (next : ℕ) → Reads nodes node next → Marked walk.done next
      all_done no_loop next reads =
          elim (part_reads place node (omega arith) here next reads) [
            | inl done ↦ done
            | inr waits ↦
                let open_yet : IsPending nodes walk.done node next = record { reads = reads; not_marked = is.ahead waits.0 next waits.1.0 } in
                let yes_loop : answer ≡ true = answered.1 (next, open_yet) in
                let apart : true ≡ false = sym yes_loop ∙ no_loop in
                absurd (cc)
          ]

      part_answer : (other from : ℕ) → place ≤ other → slice_get walk.waiting other ≡ Some from → (answer ≡ true) ↔ ReadsItself nodes from
      part_answer other from le at = (
        λ yes_loop. let found = answered.0 yes_loop in part_loops other from le at found.0 found.1,
        λ loop. by answer refl loop,
      )
        where
          by : (value : Bool) → answer ≡ value → ReadsItself nodes from → answer ≡ true
          by true same loop = same
          by false same loop = absurd (part_rests other from le at (all_done same) loop)

      module _ (new : Parting) (taken : IsTaken answer walk new) (count : length new.waiting ≡ place) where
        le_taken : (other : ℕ) → length new.waiting ≤ other → place ≤ other
        le_taken other le = omega (arith, count)

        result_closed : (other next : ℕ) → Marked new.done other → Reads nodes other next → Marked new.done next
        result_closed other next done reads = elim (taken.done_back other done) [
          | inl old ↦ taken.grows next (is.closed other next old reads)
          | inr waits ↦ elim (part_reads waits.0 other (le_taken waits.0 waits.1.1) waits.1.0 next reads) [
            | inl old ↦ taken.grows next old
            | inr behind ↦
                let le = behind.1.1 in
                (taken.taken behind.0 next behind.1.0 (omega (arith, count, le))).0
          ]
        ]

        result_marks : (other : ℕ) → Marked new.done other → Marked new.looped other ↔ ReadsItself nodes other
        result_marks other done = elim (taken.done_back other done) [
          | inl old ↦
              let same = taken.kept_marks other old in
              let marks = is.marks other old in
              (λ yes_loop. marks.0 (sym same ∙ yes_loop), λ loop. same ∙ marks.1 loop)
          | inr waits ↦
              let at = (taken.taken waits.0 other waits.1.0 waits.1.1).1 in
              let marks = part_answer waits.0 other (le_taken waits.0 waits.1.1) waits.1.0 in
              (λ yes_loop. marks.0 (some_same answer true (sym at ∙ yes_loop)), λ loop. at ∙ ap Some (marks.1 loop))
        ]

        -- what waited is done, or waits as before
        result_waits : (other from : ℕ) → slice_get walk.waiting other ≡ Some from
            → Marked new.done from ⊎ (slice_get new.waiting other ≡ Some from)
        result_waits other from at = elim (less_or_le other (length new.waiting)) [
          | inl less ↦ inr (taken.rest other from at less)
          | inr le ↦ inl ((taken.taken other from at le).0)
        ]

        result_back : (other from : ℕ) → slice_get new.waiting other ≡ Some from
            → Stands walk.firsts other ⊎ TurnsBack nodes new.waiting walk.firsts other from
        result_back other from at =
            let near = slice_get_within new.waiting other from at in
            elim (is.back other from (taken.kept other from at)) [
              | inl on ↦ elim (stands_back walk.firsts place other on) [
                | inl old ↦ inl old
                | inr same ↦ absurd (omega (arith, near, same, count))
              ]
              | inr turns ↦
                  let lower = turns.lower in inr
                  record {
                    before = turns.before;
                    earlier = turns.earlier;
                    lower = lower;
                    there = taken.rest turns.before turns.earlier turns.there (omega (arith, lower, near));
                    led = turns.led;
                    within = λ first stands le. turns.within first (stands_kept walk.firsts place first stands) le;
                  }
            ]

        result_left : (other from : ℕ) → slice_get new.waiting other ≡ Some from
            → Stands walk.way other ⊎ ((next : ℕ) → Reads nodes from next → StaysIn new.done new.waiting walk.firsts other next)
        result_left other from at =
            let near = slice_get_within new.waiting other from at in
            elim (is.left other from (taken.kept other from at)) [
              | inl on ↦ elim (stands_back walk.way place other on) [
                | inl old ↦ inl old
                | inr same ↦ absurd (omega (arith, near, same, count))
              ]
              | inr all ↦ inr (λ next reads. elim (all next reads) [
                | inl done ↦ inl (taken.grows next done)
                | inr waits ↦ elim (result_waits waits.0 next waits.1.0) [
                  | inl done ↦ inl done
                  | inr still ↦ inr
                      (waits.0, (still, λ first stands le. waits.1.1 first (stands_kept walk.firsts place first stands) le))
                ]
              ])
            ]

        result_parting : IsParting nodes (record walk { done = new.done; looped = new.looped; waiting = new.waiting })
        result_parting = record {
          seen_count = is.seen_count;
          done_count = taken.done_count ∙ is.done_count;
          looped_count = taken.looped_count ∙ is.looped_count;
          places_count = is.places_count;
          done_seen = λ other done. elim (taken.done_back other done) [
            | inl old ↦ is.done_seen other old
            | inr waits ↦ is.ahead_seen waits.0 other waits.1.0
          ];
          closed = result_closed;
          marks = result_marks;
          known = λ other seen. elim (is.known other seen) [
            | inl done ↦ inl (taken.grows other done)
            | inr stands ↦ elim (result_waits stands.0 other stands.1) [
              | inl done ↦ inl done
              | inr still ↦ inr (stands.0, still)
            ]
          ];
          ahead_seen = λ other from at. is.ahead_seen other from (taken.kept other from at);
          ahead = taken.ahead;
          placed = λ other from at. is.placed other from (taken.kept other from at);
          way_rises = rises_front walk.way place is.way_rises;
          way_inside = λ other stands.
              let less = rises_last walk.way place is.way_rises other stands in omega (arith, less, count);
          leads = λ other behind from to stands le at then.
              is.leads other behind from to (stands_kept walk.way place other stands) le (taken.kept other from at)
              (taken.kept behind to then);
          firsts_rise = rises_front walk.firsts place is.firsts_rise;
          firsts_way = λ first stands.
              let less = rises_last walk.firsts place is.firsts_rise first stands in
              elim (stands_back walk.way place first (is.firsts_way first (stands_kept walk.firsts place first stands))) [
                | inl old ↦ old
                | inr same ↦ absurd (omega (arith, less, same))
              ];
          back = result_back;
          left = result_left;
        }

        pub taken_parting : IsParting nodes new
        taken_parting = subst (λ one. IsParting nodes one) (sym taken.same) result_parting

  -- ---- in the end

  module _ (walk : Parting) (is : IsParting nodes walk) (none : walk.way ≡ []) where
    none_waits : (bound place node : ℕ) → place < bound → slice_get walk.waiting place ≡ Some node → ⊥
    none_waits zero place node less at = omega arith
    none_waits (suc bound) place node less at = elim (is.back place node at) [
      | inl on ↦ none_stands walk.way place none (is.firsts_way place on)
      | inr turns ↦
          let lower = turns.lower in none_waits bound turns.before turns.earlier (omega (arith, lower, less)) turns.there
    ]

    pub loops_are : ((node : ℕ) → node < length nodes → Marked walk.seen node) → AreLoops nodes walk.looped
    loops_are all = record {
      count = is.looped_count;
      marked = λ node inside. elim (is.known node (all node inside)) [
        | inl done ↦ is.marks node done
        | inr stands ↦ absurd
            (none_waits (length walk.waiting) stands.0 node (slice_get_within walk.waiting stands.0 node stands.1) stands.1)
      ];
    }

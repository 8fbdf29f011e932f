use Rattle.std.proofs.Common.{◌≡◌, ◌≤◌, Some, refl, ap, sym, ◌∙◌, is_some, unwrap_or}
use Rattle.std.specs.Option.{option_copied_mut}
use Rattle.std.specs.BTreeMap.{get_by_text}
use Rattle.std.proofs.lemmas.Bool.{false≢true}
use Rattle.bm_base.specs.Counts.{count_of, up}
use Rattle.bm_base.proofs.TextMap.{get-seen_same, text_map-writes}
use Rattle.bm_base.proofs.CountsLemmas.{Rose-risen, RisesOnlyAt-risen}
use Rattle.bm_base.proofs.counts.Counts.raise.Goals as goal
use Rattle.bm_base.proofs.counts.Counts.raise.Goals.{in-Some, in_default}

pub returns-clause-risen : goal.returns-clause-risen
returns-clause-risen c =
    let name = c.args.name.now in
    let old = c.self.inside.counts in
    let seen = get-seen_same old c.args.self.now name c.self.view_is in
    elim c.match-get_mut.branch [
      | in-Some w ↦
          let new = w.one_more.result in
          let found : get_by_text old name ≡ Some w.in-Some.count.now = sym c.get_mut.ensures.value ∙ ap option_copied_mut w.in-Some.is in
          let is_up : new ≡ up (count_of c.args.self.now name) = w.one_more.ensures.up ∙ ap (λ o. up (unwrap_or o 0)) (sym (seen ∙ found)) in
          let wrote = text_map-writes (λ x. x) name old (c.get_mut.follows.lender new) new _ (c.get_mut.follows.holds new) (ap is_some found) is_up in
          rw (w.self-inside-is, wrote, c.self.view_is) refl
      | in_default w ↦ absurd (false≢true (ap is_some (sym (seen ∙ sym c.get_mut.ensures.value ∙ ap option_copied_mut w.in_default.is)) ∙ c.requires))
    ]

pub returns-clause-rose : goal.returns-clause-rose
returns-clause-rose c = rw (returns-clause-risen c) (Rose-risen c.args.name.now c.args.self.now)

pub returns-clause-only : goal.returns-clause-only
returns-clause-only c =
    let name = c.args.name.now in
    let old = c.self.inside.counts in
    let seen = get-seen_same old c.args.self.now name c.self.view_is in
    let grows : count_of c.args.self.now name ≤ up (count_of c.args.self.now name) = elim c.match-get_mut.branch [
      | in-Some w ↦
          let found : get_by_text old name ≡ Some w.in-Some.count.now = sym c.get_mut.ensures.value ∙ ap option_copied_mut w.in-Some.is in
          rw (seen ∙ found, ← w.one_more.ensures.up) w.one_more.ensures.grows
      | in_default w ↦ absurd (false≢true (ap is_some (sym (seen ∙ sym c.get_mut.ensures.value ∙ ap option_copied_mut w.in_default.is)) ∙ c.requires))
    ] in
    rw (returns-clause-risen c) (RisesOnlyAt-risen name c.args.self.now grows)

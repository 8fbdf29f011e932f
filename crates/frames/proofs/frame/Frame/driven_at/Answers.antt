use Rattle.std.proofs.Common.{◌≡◌, ◌<◌, ℕ, None, Some, subst}
use Rattle.vlog_tree.specs.Meaning.Keys.{bit_count}
use Rattle.vlog_tree.specs.Meaning.Lefts.{bit_of, number_in}
use Rattle.numbering.specs.Places.{placed_driven}
use Rattle.frames.specs.Framed.{Framed}
use Rattle.frames.proofs.FrameLemmas.{driven_numbers}
use Rattle.frames.proofs.frame.Frame.driven_at.Goals as goal

pub returns-in-Some-Clock : goal.returns-in-Some-Clock
returns-in-Some-Clock c =
    let P : Framed → Type 0 = λ it. (bit : ℕ) → bit < bit_count it.placing.definition c.args.name.now
    → number_in (placed_driven it.placing) (bit_of c.args.name.now bit) ≡ None in
    record {
      place = tt;
      within = tt;
      none = λ _. subst P c.self.view_is (λ bit few.
          driven_numbers c.self.inside.places.now c.args.name.now bit few (Some c.in-Some-Clock.field-0) c.in-Some-Clock.ensures.found
          c.in-Some-Clock.ensures.place (λ first e. let is = c.in-Some-Clock.field-0-is in cc));
    }

pub returns-in-Some-Input : goal.returns-in-Some-Input
returns-in-Some-Input c =
    let P : Framed → Type 0 = λ it. (bit : ℕ) → bit < bit_count it.placing.definition c.args.name.now
    → number_in (placed_driven it.placing) (bit_of c.args.name.now bit) ≡ None in
    record {
      place = tt;
      within = tt;
      none = λ _. subst P c.self.view_is (λ bit few.
          driven_numbers c.self.inside.places.now c.args.name.now bit few (Some c.in-Some-Input.field-0) c.in-Some-Input.ensures.found
          c.in-Some-Input.ensures.place (λ first e. let is = c.in-Some-Input.field-0-is in cc));
    }

pub returns-in-Some-Register : goal.returns-in-Some-Register
returns-in-Some-Register c =
    let P : Framed → Type 0 = λ it. (bit : ℕ) → bit < bit_count it.placing.definition c.args.name.now
    → number_in (placed_driven it.placing) (bit_of c.args.name.now bit) ≡ None in
    record {
      place = tt;
      within = tt;
      none = λ _. subst P c.self.view_is (λ bit few.
          driven_numbers c.self.inside.places.now c.args.name.now bit few (Some c.in-Some-Register.field-0) c.in-Some-Register.ensures.found
          c.in-Some-Register.ensures.place (λ first e. let is = c.in-Some-Register.field-0-is in cc));
    }

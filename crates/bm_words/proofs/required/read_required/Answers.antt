use Rattle.std.proofs.Common.{◌≡◌, ◌∷◌, sym, ◌∙◌, codes}
use Rattle.bm_words.specs.Words.{texts}
use Rattle.bm_words.proofs.required.read_required.Goals as goal

pub returns-in_default-take_value-2-clause-refused : goal.returns-in_default-take_value-2-clause-refused
returns-in_default-take_value-2-clause-refused c = λ top clock check rest same.
    let first = sym c.in-Some.ensures.taken ∙ same in
    let behind : texts c.in-Some.after_top.now ≡ codes "--clock" ∷ clock ∷ codes "--check" ∷ check ∷ rest = cc in
    let second = sym c.in-Some-take_value.ensures.taken ∙ behind in
    let last : texts c.in-Some-take_value.after_clock.now ≡ codes "--check" ∷ check ∷ rest = cc in
    c.in_default-take_value-2.ensures.refused check rest last

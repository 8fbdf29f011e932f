use Rattle.std.proofs.Common.{◌≡◌, ◌==◌, ◌∷◌, [], false, refl, rules, tests}
use Rattle.std.specs.List.{list_any}
use Rattle.vlog_words.proofs.Rows.{no_row, row_at}
use Rattle.vlog_parse.specs.Nest.{closings}
use Rattle.vlog_parse.proofs.nest.closing_row.Goals as goal

pub returns-in-41 : goal.returns-in-41
unfolding closings
returns-in-41 c = row_at closings c.args.first 41 _ c.in-41.is refl

pub returns-in-125 : goal.returns-in-125
unfolding closings
returns-in-125 c = row_at closings c.args.first 125 _ c.in-125.is refl

pub returns-in-101 : goal.returns-in-101
unfolding closings
returns-in-101 c = row_at closings c.args.first 101 _ c.in-101.is refl

pub returns-in_default : goal.returns-in_default
unfolding closings
returns-in_default c =
    let letters = 41 ∷ 125 ∷ 101 ∷ [] in
    let other : list_any (λ letter. letter == c.args.first) letters ≡ false = search (rules, tests) in
    no_row letters closings c.args.first refl other

use Rattle.std.proofs.Common.{◌≡◌, ◌==◌, ◌∷◌, [], false, refl, rules, tests}
use Rattle.std.specs.List.{list_any}
use Rattle.vlog_words.proofs.Rows.{no_row, row_at}
use Rattle.vlog_parse.specs.Nest.{openings}
use Rattle.vlog_parse.proofs.nest.opening_row.Goals as goal

pub returns-in-40 : goal.returns-in-40
unfolding openings
returns-in-40 c = row_at openings c.args.first 40 _ c.in-40.is refl

pub returns-in-123 : goal.returns-in-123
unfolding openings
returns-in-123 c = row_at openings c.args.first 123 _ c.in-123.is refl

pub returns-in-98 : goal.returns-in-98
unfolding openings
returns-in-98 c = row_at openings c.args.first 98 _ c.in-98.is refl

pub returns-in_default : goal.returns-in_default
unfolding openings
returns-in_default c =
    let letters = 40 ∷ 123 ∷ 98 ∷ [] in
    let other : list_any (λ letter. letter == c.args.first) letters ≡ false = search (rules, tests) in
    no_row letters openings c.args.first refl other

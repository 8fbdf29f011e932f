use Rattle.std.proofs.Common.{◌≡◌, ◌==◌, ◌∷◌, [], false, refl, rules, tests}
use Rattle.std.specs.List.{list_any}
use Rattle.vlog_words.proofs.Rows.{no_row, row_at}
use Rattle.vlog_parse.specs.Nest.{operators}
use Rattle.vlog_parse.proofs.nest.operator_row.Goals as goal

pub returns-in-126 : goal.returns-in-126
unfolding operators
returns-in-126 c = row_at operators c.args.first 126 _ c.in-126.is refl

pub returns-in-33 : goal.returns-in-33
unfolding operators
returns-in-33 c = row_at operators c.args.first 33 _ c.in-33.is refl

pub returns-in-38 : goal.returns-in-38
unfolding operators
returns-in-38 c = row_at operators c.args.first 38 _ c.in-38.is refl

pub returns-in-124 : goal.returns-in-124
unfolding operators
returns-in-124 c = row_at operators c.args.first 124 _ c.in-124.is refl

pub returns-in-94 : goal.returns-in-94
unfolding operators
returns-in-94 c = row_at operators c.args.first 94 _ c.in-94.is refl

pub returns-in-61 : goal.returns-in-61
unfolding operators
returns-in-61 c = row_at operators c.args.first 61 _ c.in-61.is refl

pub returns-in-63 : goal.returns-in-63
unfolding operators
returns-in-63 c = row_at operators c.args.first 63 _ c.in-63.is refl

pub returns-in_default : goal.returns-in_default
unfolding operators
returns-in_default c =
    let letters = 126 ∷ 33 ∷ 38 ∷ 124 ∷ 94 ∷ 61 ∷ 63 ∷ [] in
    let other : list_any (λ letter. letter == c.args.first) letters ≡ false = search (rules, tests) in
    no_row letters operators c.args.first refl other

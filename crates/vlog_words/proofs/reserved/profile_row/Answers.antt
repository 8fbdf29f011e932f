use Rattle.std.proofs.Common.{◌≡◌, ◌==◌, ◌∷◌, [], false, refl, rules, tests}
use Rattle.std.specs.List.{list_any}
use Rattle.vlog_words.specs.Reserved.{profile_words}
use Rattle.vlog_words.proofs.Rows.{no_row, row_at}
use Rattle.vlog_words.proofs.reserved.profile_row.Goals as goal

pub returns-in-97 : goal.returns-in-97
unfolding profile_words
returns-in-97 c = row_at profile_words c.args.first 97 _ c.in-97.is refl

pub returns-in-98 : goal.returns-in-98
unfolding profile_words
returns-in-98 c = row_at profile_words c.args.first 98 _ c.in-98.is refl

pub returns-in-101 : goal.returns-in-101
unfolding profile_words
returns-in-101 c = row_at profile_words c.args.first 101 _ c.in-101.is refl

pub returns-in-105 : goal.returns-in-105
unfolding profile_words
returns-in-105 c = row_at profile_words c.args.first 105 _ c.in-105.is refl

pub returns-in-109 : goal.returns-in-109
unfolding profile_words
returns-in-109 c = row_at profile_words c.args.first 109 _ c.in-109.is refl

pub returns-in-110 : goal.returns-in-110
unfolding profile_words
returns-in-110 c = row_at profile_words c.args.first 110 _ c.in-110.is refl

pub returns-in-111 : goal.returns-in-111
unfolding profile_words
returns-in-111 c = row_at profile_words c.args.first 111 _ c.in-111.is refl

pub returns-in-112 : goal.returns-in-112
unfolding profile_words
returns-in-112 c = row_at profile_words c.args.first 112 _ c.in-112.is refl

pub returns-in-114 : goal.returns-in-114
unfolding profile_words
returns-in-114 c = row_at profile_words c.args.first 114 _ c.in-114.is refl

pub returns-in-119 : goal.returns-in-119
unfolding profile_words
returns-in-119 c = row_at profile_words c.args.first 119 _ c.in-119.is refl

pub returns-in-120 : goal.returns-in-120
unfolding profile_words
returns-in-120 c = row_at profile_words c.args.first 120 _ c.in-120.is refl

pub returns-in_default : goal.returns-in_default
unfolding profile_words
returns-in_default c =
    let letters = 97 ∷ 98 ∷ 101 ∷ 105 ∷ 109 ∷ 110 ∷ 111 ∷ 112 ∷ 114 ∷ 119 ∷ 120 ∷ [] in
    let other : list_any (λ letter. letter == c.args.first) letters ≡ false = search (rules, tests) in
    no_row letters profile_words c.args.first refl other

use Rattle.std.proofs.Common.{◌≡◌, ◌==◌, ◌∷◌, [], false, refl, rules, tests}
use Rattle.std.specs.List.{list_any}
use Rattle.vlog_words.specs.Reserved.{outside_words}
use Rattle.vlog_words.proofs.Rows.{no_row, row_at}
use Rattle.vlog_words.proofs.reserved.outside_row.Goals as goal

pub returns-in-97 : goal.returns-in-97
unfolding outside_words
returns-in-97 c = row_at outside_words c.args.first 97 _ c.in-97.is refl

pub returns-in-98 : goal.returns-in-98
unfolding outside_words
returns-in-98 c = row_at outside_words c.args.first 98 _ c.in-98.is refl

pub returns-in-99 : goal.returns-in-99
unfolding outside_words
returns-in-99 c = row_at outside_words c.args.first 99 _ c.in-99.is refl

pub returns-in-100 : goal.returns-in-100
unfolding outside_words
returns-in-100 c = row_at outside_words c.args.first 100 _ c.in-100.is refl

pub returns-in-101 : goal.returns-in-101
unfolding outside_words
returns-in-101 c = row_at outside_words c.args.first 101 _ c.in-101.is refl

pub returns-in-102 : goal.returns-in-102
unfolding outside_words
returns-in-102 c = row_at outside_words c.args.first 102 _ c.in-102.is refl

pub returns-in-103 : goal.returns-in-103
unfolding outside_words
returns-in-103 c = row_at outside_words c.args.first 103 _ c.in-103.is refl

pub returns-in-104 : goal.returns-in-104
unfolding outside_words
returns-in-104 c = row_at outside_words c.args.first 104 _ c.in-104.is refl

pub returns-in-105 : goal.returns-in-105
unfolding outside_words
returns-in-105 c = row_at outside_words c.args.first 105 _ c.in-105.is refl

pub returns-in-106 : goal.returns-in-106
unfolding outside_words
returns-in-106 c = row_at outside_words c.args.first 106 _ c.in-106.is refl

pub returns-in-108 : goal.returns-in-108
unfolding outside_words
returns-in-108 c = row_at outside_words c.args.first 108 _ c.in-108.is refl

pub returns-in-109 : goal.returns-in-109
unfolding outside_words
returns-in-109 c = row_at outside_words c.args.first 109 _ c.in-109.is refl

pub returns-in-110 : goal.returns-in-110
unfolding outside_words
returns-in-110 c = row_at outside_words c.args.first 110 _ c.in-110.is refl

pub returns-in-112 : goal.returns-in-112
unfolding outside_words
returns-in-112 c = row_at outside_words c.args.first 112 _ c.in-112.is refl

pub returns-in-114 : goal.returns-in-114
unfolding outside_words
returns-in-114 c = row_at outside_words c.args.first 114 _ c.in-114.is refl

pub returns-in-115 : goal.returns-in-115
unfolding outside_words
returns-in-115 c = row_at outside_words c.args.first 115 _ c.in-115.is refl

pub returns-in-116 : goal.returns-in-116
unfolding outside_words
returns-in-116 c = row_at outside_words c.args.first 116 _ c.in-116.is refl

pub returns-in-117 : goal.returns-in-117
unfolding outside_words
returns-in-117 c = row_at outside_words c.args.first 117 _ c.in-117.is refl

pub returns-in-118 : goal.returns-in-118
unfolding outside_words
returns-in-118 c = row_at outside_words c.args.first 118 _ c.in-118.is refl

pub returns-in-119 : goal.returns-in-119
unfolding outside_words
returns-in-119 c = row_at outside_words c.args.first 119 _ c.in-119.is refl

pub returns-in_default : goal.returns-in_default
unfolding outside_words
returns-in_default c =
    let letters = 97 ∷ 98 ∷ 99 ∷ 100 ∷ 101 ∷ 102 ∷ 103 ∷ 104 ∷ 105 ∷ 106 ∷ 108 ∷ 109 ∷ 110 ∷ 112 ∷ 114 ∷ 115 ∷ 116 ∷ 117 ∷ 118 ∷ 119 ∷ [] in
    let other : list_any (λ letter. letter == c.args.first) letters ≡ false = search (rules, tests) in
    no_row letters outside_words c.args.first refl other

use Rattle.std.proofs.Common.{◌≡◌, ◌==◌, ◌∷◌, [], false, refl, rules, tests}
use Rattle.std.specs.List.{list_any}
use Rattle.vlog_tokens.specs.Tables.{marks}
use Rattle.vlog_words.proofs.Rows.{no_row, row_at}
use Rattle.vlog_lexer.proofs.table.mark_row.Goals as goal

pub returns-in-40 : goal.returns-in-40
unfolding marks
returns-in-40 c = row_at marks c.args.first 40 _ c.in-40.is refl

pub returns-in-42 : goal.returns-in-42
unfolding marks
returns-in-42 c = row_at marks c.args.first 42 _ c.in-42.is refl

pub returns-in-60 : goal.returns-in-60
unfolding marks
returns-in-60 c = row_at marks c.args.first 60 _ c.in-60.is refl

pub returns-in-61 : goal.returns-in-61
unfolding marks
returns-in-61 c = row_at marks c.args.first 61 _ c.in-61.is refl

pub returns-in-33 : goal.returns-in-33
unfolding marks
returns-in-33 c = row_at marks c.args.first 33 _ c.in-33.is refl

pub returns-in-38 : goal.returns-in-38
unfolding marks
returns-in-38 c = row_at marks c.args.first 38 _ c.in-38.is refl

pub returns-in-124 : goal.returns-in-124
unfolding marks
returns-in-124 c = row_at marks c.args.first 124 _ c.in-124.is refl

pub returns-in-126 : goal.returns-in-126
unfolding marks
returns-in-126 c = row_at marks c.args.first 126 _ c.in-126.is refl

pub returns-in-94 : goal.returns-in-94
unfolding marks
returns-in-94 c = row_at marks c.args.first 94 _ c.in-94.is refl

pub returns-in-41 : goal.returns-in-41
unfolding marks
returns-in-41 c = row_at marks c.args.first 41 _ c.in-41.is refl

pub returns-in-91 : goal.returns-in-91
unfolding marks
returns-in-91 c = row_at marks c.args.first 91 _ c.in-91.is refl

pub returns-in-93 : goal.returns-in-93
unfolding marks
returns-in-93 c = row_at marks c.args.first 93 _ c.in-93.is refl

pub returns-in-123 : goal.returns-in-123
unfolding marks
returns-in-123 c = row_at marks c.args.first 123 _ c.in-123.is refl

pub returns-in-125 : goal.returns-in-125
unfolding marks
returns-in-125 c = row_at marks c.args.first 125 _ c.in-125.is refl

pub returns-in-44 : goal.returns-in-44
unfolding marks
returns-in-44 c = row_at marks c.args.first 44 _ c.in-44.is refl

pub returns-in-59 : goal.returns-in-59
unfolding marks
returns-in-59 c = row_at marks c.args.first 59 _ c.in-59.is refl

pub returns-in-58 : goal.returns-in-58
unfolding marks
returns-in-58 c = row_at marks c.args.first 58 _ c.in-58.is refl

pub returns-in-46 : goal.returns-in-46
unfolding marks
returns-in-46 c = row_at marks c.args.first 46 _ c.in-46.is refl

pub returns-in-35 : goal.returns-in-35
unfolding marks
returns-in-35 c = row_at marks c.args.first 35 _ c.in-35.is refl

pub returns-in-64 : goal.returns-in-64
unfolding marks
returns-in-64 c = row_at marks c.args.first 64 _ c.in-64.is refl

pub returns-in-63 : goal.returns-in-63
unfolding marks
returns-in-63 c = row_at marks c.args.first 63 _ c.in-63.is refl

pub returns-in-62 : goal.returns-in-62
unfolding marks
returns-in-62 c = row_at marks c.args.first 62 _ c.in-62.is refl

pub returns-in-43 : goal.returns-in-43
unfolding marks
returns-in-43 c = row_at marks c.args.first 43 _ c.in-43.is refl

pub returns-in-45 : goal.returns-in-45
unfolding marks
returns-in-45 c = row_at marks c.args.first 45 _ c.in-45.is refl

pub returns-in-47 : goal.returns-in-47
unfolding marks
returns-in-47 c = row_at marks c.args.first 47 _ c.in-47.is refl

pub returns-in-37 : goal.returns-in-37
unfolding marks
returns-in-37 c = row_at marks c.args.first 37 _ c.in-37.is refl

pub returns-in_default : goal.returns-in_default
unfolding marks
returns-in_default c =
    let letters = 40 ∷ 42 ∷ 60 ∷ 61 ∷ 33 ∷ 38 ∷ 124 ∷ 126 ∷ 94 ∷ 41 ∷ 91 ∷ 93 ∷ 123 ∷ 125 ∷ 44 ∷ 59 ∷ 58 ∷ 46 ∷ 35 ∷ 64 ∷ 63 ∷ 62 ∷ 43 ∷ 45 ∷ 47 ∷ 37 ∷ [] in
    let other : list_any (λ letter. letter == c.args.first) letters ≡ false = search (rules, tests) in
    no_row letters marks c.args.first refl other

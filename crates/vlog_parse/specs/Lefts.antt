-- What left sides read.
use Rattle.std.specs.Prelude.{ℕ, zero, suc, codes, if◌then◌else◌}
use Rattle.vlog_tree.specs.declared.left.Left.{Left}
use Rattle.vlog_tree.specs.declared.left.Left.TheVariants.{Join}
use Rattle.vlog_tree.specs.Spelling.Lefts.{assigned}
use Rattle.vlog_parse.specs.Reads.{Parser, ◌>>=◌, ◌>>◌, expect, here, pure, refuse, sees, separated}
use Rattle.vlog_parse.specs.Selects.{select, select_of}
use Rattle.vlog_parse.specs.Terminals.{name}

-- a name, one bit of it or a part of it
unfoldable pub named : Parser Left
named = do
  at ← here
  text ← name
  found ← select
  pure (assigned (select_of found) at text)

-- The left sides that stand inside of this one are given.
module _ (inner : Parser Left) where
  unfoldable pub join : Parser Left
  join = do
    expect (codes "{")
    parts ← separated inner
    expect (codes "}")
    pure (Join parts)

  unfoldable pub target : Parser Left
  target = λ ts. if sees (codes "{") ts then join ts else named ts

-- a left side in which braces nest less deep than the number
unfoldable pub left : ℕ → Parser Left
left zero = refuse
left (suc depth) = target (left depth)

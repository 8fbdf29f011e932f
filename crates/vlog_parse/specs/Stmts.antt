-- What statements read.
use Rattle.std.specs.Prelude.{ℕ, zero, suc, codes, Option, Some, None, if◌then◌else◌}
use Rattle.vlog_tree.specs.declared.stmt.Stmt.{Stmt}
use Rattle.vlog_tree.specs.declared.stmt.Stmt.TheVariants.{Empty, Block, If, Set}
use Rattle.vlog_parse.specs.Delays.{any_delay}
use Rattle.vlog_parse.specs.Exprs.{expr}
use Rattle.vlog_parse.specs.Lefts.{left}
use Rattle.vlog_parse.specs.Reads.{Parser, ◌>>=◌, ◌>>◌, expect, here, pure, refuse, repeated_until, sees}

unfoldable pub empty : Parser Stmt
empty = do
  expect (codes ";")
  pure Empty

-- The number is how deep the left side and the expression may nest.
unfoldable pub set : ℕ → Parser Stmt
set depth = do
  at ← here
  target ← left depth
  expect (codes "<=")
  any_delay
  right ← expr depth
  expect (codes ";")
  pure (Set at target right)

-- The statements that stand inside of this one are given.
module _ (inner : Parser Stmt) where
  unfoldable pub block : Parser Stmt
  block = do
    expect (codes "begin")
    stmts ← repeated_until (codes "end") inner
    expect (codes "end")
    pure (Block stmts)

  unfoldable pub after_else : Parser (Option Stmt)
  after_else = do
    expect (codes "else")
    other ← inner
    pure (Some other)

  -- An `else` that follows belongs to this `if`.
  unfoldable pub otherwise : Parser (Option Stmt)
  otherwise = λ ts. if sees (codes "else") ts then after_else ts else pure None ts

  unfoldable pub choice : ℕ → Parser Stmt
  choice depth = do
    expect (codes "if")
    expect (codes "(")
    cond ← expr depth
    expect (codes ")")
    first ← inner
    other ← otherwise
    pure (If cond first other)

  unfoldable pub statement : ℕ → Parser Stmt
  statement depth = λ ts.
      if sees (codes ";") ts then empty ts
      else (if sees (codes "begin") ts then block ts
      else (if sees (codes "if") ts then choice depth ts
      else set depth ts))

-- a statement in which statements, and what they hold, nest less deep than the number
unfoldable pub stmt : ℕ → Parser Stmt
stmt zero = refuse
stmt (suc depth) = statement (stmt depth) depth

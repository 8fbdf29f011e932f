-- What the rules of expressions read.
use Rattle.std.specs.Prelude.{ℕ, zero, suc, codes, if◌then◌else◌}
use Rattle.vlog_tree.specs.declared.expr.Expr.{Expr}
use Rattle.vlog_tree.specs.declared.expr.Expr.TheVariants as tree
use Rattle.vlog_tree.specs.Spelling.Exprs.{named}
use Rattle.vlog_parse.specs.Chains.{chain, unary_operators, wrap}
use Rattle.vlog_parse.specs.Looks.{sees_name, sees_decimal_before}
use Rattle.vlog_parse.specs.Numbers.{number}
use Rattle.vlog_parse.specs.Reads.{Parser, ◌>>=◌, ◌>>◌, pure, refuse, here, expect, sees, separated}
use Rattle.vlog_parse.specs.Selects.{select, select_of}
use Rattle.vlog_numbers.specs.Terminals.{is_size}
use Rattle.vlog_parse.specs.Terminals.{decimal, name}
use Rattle.vlog_tokens.specs.Toks.{Tok}

unfoldable pub literal : Parser Expr
literal = do
  at ← here
  bits ← number
  pure (tree.Number at bits)

-- a name, with one bit or a part of it
unfoldable pub reference : Parser Expr
reference = do
  at ← here
  text ← name
  taken ← select
  pure (named (select_of taken) at text)

-- The second brace of a replication. A decimal may be a number by itself, so it is here that one outside the bounds of
-- a count does not fit.
unfoldable pub inner_brace : ℕ → Parser Tok
inner_brace times = if is_size times then expect (codes "{") else refuse

-- The expressions that stand inside of this one are given.
module _ (inner : Parser Expr) where
  unfoldable pub parentheses : Parser Expr
  parentheses = do
    expect (codes "(")
    e ← inner
    expect (codes ")")
    pure e

  -- what follows the opening brace of a concatenation
  unfoldable pub join : Parser Expr
  join = do
    parts ← separated inner
    expect (codes "}")
    pure (tree.Join parts)

  -- what follows the opening brace of a replication
  unfoldable pub repeat : Parser Expr
  repeat = do
    times ← decimal
    inner_brace times
    parts ← separated inner
    expect (codes "}")
    expect (codes "}")
    pure (tree.Repeat times parts)

  unfoldable pub braces : Parser Expr
  braces = do
    expect (codes "{")
    λ ts. if sees_decimal_before (codes "{") ts then repeat ts else join ts

  unfoldable pub primary : Parser Expr
  primary = λ ts.
      if sees (codes "(") ts then parentheses ts
      else (if sees (codes "{") ts then braces ts
      else (if sees_name ts then reference ts
      else literal ts))

  -- a primary with the unary operators before it
  unfoldable pub unary : Parser Expr
  unary = do
    ops ← unary_operators
    e ← primary
    pure (wrap ops e)

  -- operators of this level and of the tighter ones
  abbrev pub level : ℕ → Parser Expr
  level zero = unary
  level (suc below) = chain (suc below) (level below)

  unfoldable pub choice : Expr → Parser Expr
  choice cond = do
    expect (codes "?")
    first ← inner
    expect (codes ":")
    second ← inner
    pure (tree.Cond cond first second)

  unfoldable pub conditional : Parser Expr
  conditional = do
    cond ← level 6
    λ ts. if sees (codes "?") ts then choice cond ts else pure cond ts

-- an expression in which expressions nest less deep than the number
unfoldable pub expr : ℕ → Parser Expr
expr zero = refuse
expr (suc depth) = conditional (expr depth)

-- Operators, and the chains of operands that they make.
use Rattle.std.specs.Prelude.{ℕ, ◌==◌, Bool, is_some, List, [], ◌∷◌, Option, Some, None, if◌then◌else◌}
use Rattle.vlog_tokens.specs.Toks.{Tok}
use Rattle.vlog_tree.specs.declared.expr.BinOp.{BinOp}
use Rattle.vlog_tree.specs.declared.expr.Expr.{Expr}
use Rattle.vlog_tree.specs.declared.expr.Expr.TheVariants as expr
use Rattle.vlog_tree.specs.declared.expr.UnOp.{UnOp}
use Rattle.vlog_tree.specs.Spelling.Operators.{binary_operator, unary_operator}
use Rattle.vlog_tree.specs.Spelling.Parts.{terminal}
use Rattle.vlog_parse.specs.Reads.{Parser, ◌>>=◌, pure, next_terminal, take_if, loop, one_more}

-- ---- before an operand

-- the unary operator that a token is
abbrev pub unary_of : Tok → Option UnOp
unary_of tok = unary_operator (terminal tok)

-- whether the next token is a unary operator
abbrev pub sees_unary : List Tok → Bool
sees_unary ts = is_some (unary_operator (next_terminal ts))

unfoldable pub one_unary : Parser UnOp
one_unary = take_if unary_of

-- any number of unary operators
unfoldable pub unary_operators : Parser (List UnOp)
unary_operators = loop sees_unary (one_more one_unary) []

-- the operators before an operand, the first of which is the outermost
abbrev pub wrap : List UnOp → Expr → Expr
wrap [] e = e
wrap (op ∷ ops) e = expr.Unary op (wrap ops e)

-- ---- between operands

-- the operator, if it is of this level
abbrev pub of_level : ℕ → Option (ℕ × BinOp) → Option BinOp
of_level level (Some p) = if p.0 == level then Some p.1 else None
of_level level None = None

-- the binary operator of a level that a token is
abbrev pub binary_of : ℕ → Tok → Option BinOp
binary_of level tok = of_level level (binary_operator (terminal tok))

-- whether the next token is a binary operator of this level
abbrev pub sees_binary : ℕ → List Tok → Bool
sees_binary level ts = is_some (of_level level (binary_operator (next_terminal ts)))

unfoldable pub one_binary : ℕ → Parser BinOp
one_binary level = take_if (binary_of level)

-- an operator and the operand on its right
unfoldable pub operation : ℕ → Parser Expr → Expr → Parser Expr
operation level operand left = do
  op ← one_binary level
  right ← operand
  pure (expr.Binary op left right)

-- operands with operators of a level between, grouped to the left
unfoldable pub chain : ℕ → Parser Expr → Parser Expr
chain level operand = do
  first ← operand
  loop (sees_binary level) (operation level operand) first

-- Expressions (IEEE 1364-2005, clause 5), level by level.
use Rattle.std.specs.Prelude.{◌≡◌, ℕ, zero, suc, Bool, List, [], ◌∷◌, ◌++◌, codes, Some}
use Rattle.vlog_tokens.specs.Toks.{Tok}
use Rattle.vlog_tree.specs.declared.expr.BinOp.{BinOp}
use Rattle.vlog_tree.specs.declared.expr.Expr.{Expr}
use Rattle.vlog_tree.specs.declared.expr.Expr.TheVariants as expr
use Rattle.vlog_tree.specs.declared.expr.UnOp.{UnOp}
use Rattle.vlog_tree.specs.Spelling.Numbers.{IsNumber}
use Rattle.vlog_tree.specs.Spelling.Operators.{binary_operator, unary_operator}
use Rattle.vlog_tree.specs.Spelling.Parts.{Commas, Is, IsCount, IsName, place_of, terminal}
use Rattle.vlog_tree.specs.Spelling.Selects.{IsSelect, Select, whole, bit, part}

-- a name that is read
abbrev pub named : Select → ℕ → List ℕ → Expr
named whole at name = expr.Whole at name
named (bit index) at name = expr.Bit at name index
named (part range) at name = expr.Part at name range

-- The expressions that stand inside of this one are given.
module _ (Inner : List Tok → Expr → Type 0) where
  -- number | name | name "[" decimal "]" | name range | "{" expr,+ "}" | "{" decimal "{" expr,+ "}" "}" | "(" expr ")"
  pub data Primary : List Tok → Expr → Type 0 where
    number : (ts : List Tok) (bits : List Bool) → IsNumber ts bits → Primary ts (expr.Number (place_of ts) bits)
    name : (word : Tok) (ts : List Tok) (text : List ℕ) (select : Select) → IsName word text → IsSelect ts select
        → Primary (word ∷ ts) (named select word.at text)
    join : (opening closing : Tok) (ts : List Tok) (parts : List Expr) → Is (codes "{") opening → Commas Inner ts parts
        → Is (codes "}") closing
        → Primary (opening ∷ (ts ++ closing ∷ [])) (expr.Join parts)
    repeat : (opening digits inner closing last : Tok) (ts : List Tok) (count : ℕ) (parts : List Expr)
        → Is (codes "{") opening → IsCount digits count → Is (codes "{") inner
        → Commas Inner ts parts → Is (codes "}") closing → Is (codes "}") last
        → Primary (opening ∷ digits ∷ inner ∷ (ts ++ closing ∷ last ∷ [])) (expr.Repeat count parts)
    parentheses : (opening closing : Tok) (ts : List Tok) (e : Expr) → Is (codes "(") opening → Inner ts e
        → Is (codes ")") closing → Primary (opening ∷ (ts ++ closing ∷ [])) e

  -- a primary, or a unary operator before another one of these
  pub data Unary : List Tok → Expr → Type 0 where
    primary : (ts : List Tok) (e : Expr) → Primary ts e → Unary ts e
    operator : (tok : Tok) (ts : List Tok) (op : UnOp) (e : Expr) → unary_operator (terminal tok) ≡ Some op → Unary ts e
        → Unary (tok ∷ ts) (expr.Unary op e)

  -- The operators of a level associate to the left, so the operand on the right is of a tighter level.
  pub data Binary : ℕ → List Tok → Expr → Type 0 where
    unary : (ts : List Tok) (e : Expr) → Unary ts e → Binary zero ts e
    tighter : (level : ℕ) (ts : List Tok) (e : Expr) → Binary level ts e → Binary (suc level) ts e
    operator : (level : ℕ) (front back : List Tok) (tok : Tok) (op : BinOp) (left right : Expr)
        → Binary (suc level) front left → binary_operator (terminal tok) ≡ Some (suc level, op)
        → Binary level back right
        → Binary (suc level) (front ++ tok ∷ back) (expr.Binary op left right)

  -- `? :` associates to the right, so the condition has none.
  pub data Conditional : List Tok → Expr → Type 0 where
    plain : (ts : List Tok) (e : Expr) → Binary 6 ts e → Conditional ts e
    choice : (front middle back : List Tok) (question colon : Tok) (cond first second : Expr) → Binary 6 front cond
        → Is (codes "?") question → Inner middle first → Is (codes ":") colon → Inner back second
        → Conditional (front ++ question ∷ (middle ++ colon ∷ back)) (expr.Cond cond first second)

-- An expression in which expressions nest less deep than the number.
abbrev pub IsExpr : ℕ → List Tok → Expr → Type 0
IsExpr zero ts e = ⊥
IsExpr (suc depth) ts e = Conditional (IsExpr depth) ts e

-- expr
abbrev pub SpellsExpr : List Tok → Expr → Type 0
SpellsExpr ts e = (depth : ℕ) × IsExpr depth ts e

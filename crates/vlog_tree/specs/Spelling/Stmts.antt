-- Statements (IEEE 1364-2005, clause 9).
use Rattle.std.specs.Prelude.{◌≡◌, ℕ, zero, suc, Bool, true, false, List, [], ◌∷◌, ◌++◌, codes, Some, None}
use Rattle.vlog_tokens.specs.Toks.{Tok}
use Rattle.vlog_tokens.specs.declared.token.TokenKind.TheVariants.{Based, Decimal}
use Rattle.vlog_tree.specs.declared.expr.Expr.{Expr}
use Rattle.vlog_tree.specs.declared.left.Left.{Left}
use Rattle.vlog_tree.specs.declared.stmt.Stmt.{Stmt}
use Rattle.vlog_tree.specs.declared.stmt.Stmt.TheVariants as stmt
use Rattle.vlog_tree.specs.Spelling.Exprs.{SpellsExpr}
use Rattle.vlog_tree.specs.Spelling.Lefts.{SpellsLeft}
use Rattle.vlog_tree.specs.Spelling.Parts.{Is, IsAnyDelay, Many, place_of}

-- The last token is a decimal.
abbrev pub EndsInDecimal : List Tok → Type 0
EndsInDecimal [] = ⊥
EndsInDecimal (tok ∷ []) = tok.kind ≡ Decimal
EndsInDecimal (tok ∷ next ∷ rest) = EndsInDecimal (next ∷ rest)

abbrev pub BeginsBased : List Tok → Type 0
BeginsBased [] = ⊥
BeginsBased (tok ∷ rest) = tok.kind ≡ Based

-- A decimal and a based token directly after it are one number, so no production ends between them.
abbrev pub IsParted : List Tok → List Tok → Type 0
IsParted before after = EndsInDecimal before → BeginsBased after → ⊥

-- The statements that stand inside of this one are given. The truth value says whether it ends in an `if` without
-- `else`, to which an `else` after it would belong.
module _ (Inner : Bool → List Tok → Stmt → Type 0) where
  -- a statement of either kind
  abbrev pub Either : List Tok → Stmt → Type 0
  Either ts inner = (dangling : Bool) × Inner dangling ts inner

  pub data Statement : Bool → List Tok → Stmt → Type 0 where
    -- ";"
    empty : (semi : Tok) → Is (codes ";") semi → Statement false (semi ∷ []) stmt.Empty
    -- "begin" stmt* "end"
    block : (begin last : Tok) (ts : List Tok) (inner : List Stmt) → Is (codes "begin") begin → Many Either ts inner
        → Is (codes "end") last
        → Statement false (begin ∷ (ts ++ last ∷ [])) (stmt.Block inner)
    -- "if" "(" expr ")" stmt
    only : (word opening closing : Tok) (condition ts : List Tok) (cond : Expr) (first : Stmt) → Is (codes "if") word
        → Is (codes "(") opening → SpellsExpr condition cond → Is (codes ")") closing
        → Either ts first → Statement true (word ∷ opening ∷ (condition ++ closing ∷ ts)) (stmt.If cond first None)
    -- "if" "(" expr ")" stmt "else" stmt
    both : (word opening closing other : Tok) (condition ts us : List Tok) (cond : Expr) (first second : Stmt)
        (dangling : Bool) → Is (codes "if") word → Is (codes "(") opening → SpellsExpr condition cond
        → Is (codes ")") closing
        → Inner false ts first → Is (codes "else") other → Inner dangling us second
        → Statement dangling (word ∷ opening ∷ (condition ++ closing ∷ (ts ++ other ∷ us)))
        (stmt.If cond first (Some second))
    -- left "<=" delay? expr ";"
    set : (arrow semi : Tok) (front delay back : List Tok) (target : Left) (right : Expr) → SpellsLeft front target
        → Is (codes "<=") arrow → IsAnyDelay delay → SpellsExpr back right → IsParted delay back → Is (codes ";") semi
        → Statement false (front ++ arrow ∷ (delay ++ (back ++ semi ∷ []))) (stmt.Set (place_of front) target right)

-- A statement in which statements nest less deep than the number.
abbrev pub IsStmt : ℕ → Bool → List Tok → Stmt → Type 0
IsStmt zero dangling ts s = ⊥
IsStmt (suc depth) dangling ts s = Statement (IsStmt depth) dangling ts s

-- stmt
abbrev pub SpellsStmt : List Tok → Stmt → Type 0
SpellsStmt ts s = (depth : ℕ) × (dangling : Bool) × IsStmt depth dangling ts s

-- A function value that reads expressions to a depth.
use Rattle.std.specs.Prelude.{◌<◌, ℕ, List, length, Result, OnOk}
use Rattle.std.specs.declared.alloc.Global.{Global}
use denote.Ref.{MutBor}
use Rattle.vlog_tokens.specs.Toks.{Tok}
use Rattle.vlog_tree.specs.declared.expr.Expr.{Expr}
use Rattle.vlog_parse.specs.Exprs.{expr}
use Rattle.vlog_parse.specs.Reads.{Reads}
use Rattle.vlog_numbers.specs.declared.fault.Fault.{Fault}

pub record Nests (depth : ℕ) (pre : Global → MutBor (List Tok) → ℕ → Type 0)
    (post : Global → MutBor (List Tok) → ℕ → Result Expr Fault → MutBor (List Tok) → Type 0) : Type 0 where
  pub callable : (alloc : Global) (old : MutBor (List Tok)) → pre alloc old depth
  pub reads : (alloc : Global) (old new : MutBor (List Tok)) (result : Result Expr Fault)
      → post alloc old depth result new → Reads (expr depth old.now) result new.now
  pub consumes : (alloc : Global) (old new : MutBor (List Tok)) (result : Result Expr Fault)
      → post alloc old depth result new → OnOk result (length new.now < length old.now)

-- What the rules of statements make of the tokens up to one of them.
use Rattle.std.proofs.Common.{◌≤◌, ℕ, zero, suc, codes, Some, None, refl, arith}
use Rattle.vlog_tree.specs.declared.stmt.Stmt.{Stmt}
use Rattle.vlog_tree.specs.declared.stmt.Stmt.TheVariants.{Empty, Block, If, Set}
use Rattle.vlog_parse.specs.Exprs.{expr}
use Rattle.vlog_parse.specs.Lefts.{left}
use Rattle.vlog_parse.specs.Reads.{Parser, sees}
use Rattle.vlog_parse.specs.Stmts.{after_else, block, choice, empty, otherwise, set, statement, stmt}
use Rattle.vlog_parse.proofs.LocalBoths.{Both, expected_both, fewer, if_both, later_both, mark_both}
use Rattle.vlog_parse.proofs.LocalDepths.{expr_local, left_local}
use Rattle.vlog_parse.proofs.LocalLoops.{repeated_local}
use Rattle.vlog_parse.proofs.LocalNumbers.{any_delay_local}
use Rattle.vlog_parse.proofs.Locals.{Local, expect_local, here_local, if_local, pure_local, refuse_local, then_local, weaker}

empty_both : {n m : ℕ} → Both n m empty empty
unfolding empty
empty_both = mark_both (codes ";") (λ _. pure_local Empty)

-- ---- what stands in a statement, where there are no more tokens than the depth

module _ {n m : ℕ} (depth depth2 : ℕ) (low : n ≤ depth) (low2 : m ≤ depth2) where
  pub expr_at : Local n m (expr depth) (expr depth2)
  expr_at = weaker low low2 (expr_local depth depth2)

  pub left_at : Local n m (left depth) (left depth2)
  left_at = weaker low low2 (left_local depth depth2)

  set_both : Both n m (set depth) (set depth2)
  unfolding set
  set_both = later_both here_local (λ at. later_both left_at (λ target. mark_both (codes "<=") (λ _. then_local any_delay_local (λ _. then_local expr_at (λ right. then_local (expect_local (codes ";")) (λ _. pure_local (Set at target right)))))))

module _ {n m : ℕ} {inner inner2 : Parser Stmt} (both : Both n m inner inner2) where
  block_both : Both (suc n) (suc m) (block inner) (block inner2)
  unfolding block
  block_both = expected_both (codes "begin") (λ _. then_local (repeated_local both.local (codes "end") both.takes) (λ stmts. then_local (expect_local (codes "end")) (λ _. pure_local (Block stmts))))

  otherwise_local : Local n m (otherwise inner) (otherwise inner2)
  unfolding otherwise after_else
  otherwise_local = if_local (sees (codes "else")) (λ tok rest more. refl) (then_local (expect_local (codes "else")) (λ _. then_local both.local (λ other. pure_local (Some other)))) (pure_local None)

  module _ (depth depth2 : ℕ) (low : n ≤ depth) (low2 : m ≤ depth2) where
    choice_both : Both (suc n) (suc m) (choice inner depth) (choice inner2 depth2)
    unfolding choice
    choice_both =
        expected_both (codes "if") (λ _. then_local (expect_local (codes "(")) (λ _. then_local (expr_at depth depth2 low low2) (λ cond. then_local (expect_local (codes ")")) (λ _. then_local both.local (λ first. then_local otherwise_local (λ other. pure_local (If cond first other)))))))

    -- the statement of a list that is no longer than these numbers
    statement_both : (k l : ℕ) → k ≤ suc n → l ≤ suc m → Both k l (set depth) (set depth2) → Both k l (statement inner depth) (statement inner2 depth2)
    unfolding statement
    statement_both k l fits fits2 assigned =
        if_both (sees (codes ";")) (λ tok rest more. refl) empty_both (if_both (sees (codes "begin")) (λ tok rest more. refl) (fewer fits fits2 block_both) (if_both (sees (codes "if")) (λ tok rest more. refl) (fewer fits fits2 choice_both) assigned))

-- ---- statements, to any depth

plain_stmt : (depth : ℕ) → Both 0 0 (stmt depth) (stmt depth)
unfolding stmt
plain_stmt zero = record { local = refuse_local; takes = record { takes = λ ts a left e. cc } }
plain_stmt (suc depth) = statement_both (plain_stmt depth) depth depth (omega arith) (omega arith) 0 0 (omega arith) (omega arith) (set_both depth depth (omega arith) (omega arith))

-- A statement in a list that is shorter than the depth.
pub stmt_both : (n m : ℕ) → Both n m (stmt (suc n)) (stmt (suc m))
unfolding stmt
stmt_both zero m = (let plain = plain_stmt 1 in record { local = record { keeps = plain.local.keeps; moves = λ front tok rest more found fits fits2 e. absurd (omega arith) }; takes = plain.takes })
stmt_both (suc n) zero = (let plain = plain_stmt (suc (suc n)) in record { local = record { keeps = plain.local.keeps; moves = λ front tok rest more found fits fits2 e. absurd (omega arith) }; takes = plain.takes })
stmt_both (suc n) (suc m) = statement_both (stmt_both n m) (suc n) (suc m) (omega arith) (omega arith) (suc n) (suc m) (omega arith) (omega arith) (set_both (suc n) (suc m) (omega arith) (omega arith))

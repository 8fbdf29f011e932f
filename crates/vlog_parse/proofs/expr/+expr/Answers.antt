use Rattle.std.proofs.Common.{◌≡◌, ◌<◌, ◌-◌, ℕ, suc, ap, arith}
use Rattle.vlog_parse.specs.Exprs.{expr}
use Rattle.vlog_parse.proofs.expr.+expr.Goals as goal

deeper : {X : Type 0} (f : ℕ → X) (n : ℕ) → 0 < n → f n ≡ f (suc (n - 1))
deeper f n some = let e : n ≡ suc (n - 1) = omega arith in ap f e

pub returns-then-depth-eq0-clause-reads : goal.returns-then-depth-eq0-clause-reads
unfolding expr
returns-then-depth-eq0-clause-reads t c = let none : c.args.depth ≡ 0 = omega arith in ap (λ n. expr n c.args.cursor.now) none

pub returns-clause-reads : goal.returns-clause-reads
unfolding expr
returns-clause-reads t c = rw (deeper (λ n. expr n c.args.cursor.now) c.args.depth (omega arith)) c.conditional.ensures.reads

-- What spells a left side spells an expression too.
use Rattle.std.proofs.Common.{ℕ, zero, suc, List, [], ◌∷◌}
use Rattle.vlog_tokens.specs.Toks.{Tok}
use Rattle.vlog_tree.specs.declared.expr.Expr.{Expr}
use Rattle.vlog_tree.specs.declared.expr.Expr.TheVariants as tree
use Rattle.vlog_tree.specs.declared.left.Left.{Left}
use Rattle.vlog_tree.specs.Spelling.Exprs.{Binary, Conditional, IsExpr, Primary, SpellsExpr, Unary, named}
use Rattle.vlog_tree.specs.Spelling.Lefts.{IsLeft, SpellsLeft, Target}
use Rattle.vlog_tree.specs.Spelling.Parts.{Commas, Production}

primary_is : (Inner : Production Expr) (ts : List Tok) (e : Expr) → Primary Inner ts e → Conditional Inner ts e
primary_is Inner ts e p =
    Conditional.plain ts e (Binary.tighter 5 ts e (Binary.tighter 4 ts e (Binary.tighter 3 ts e (Binary.tighter 2 ts e (Binary.tighter 1 ts e (Binary.tighter 0 ts e (Binary.unary ts e (Unary.primary ts e p))))))))

module _ (Inner : Production Left) (InnerExpr : Production Expr) (inner : (ts : List Tok) (target : Left) → Inner ts target → (e : Expr) × InnerExpr ts e) where
  commas_are : {ts : List Tok} {parts : List Left} → Commas Inner ts parts → (es : List Expr) × Commas InnerExpr ts es
  commas_are (Commas.last only a s) = let (e, h) = inner only a s in (e ∷ [], Commas.last only e h)
  commas_are (Commas.next first comma rest a others s is more) =
      let (e, h) = inner first a s in
      let (es, hs) = commas_are more in
      (e ∷ es, Commas.next first comma rest e es h is hs)

  target_is : {ts : List Tok} {target : Left} → Target Inner ts target → (e : Expr) × Conditional InnerExpr ts e
  target_is (Target.name word ts text select is h) = (named select word.at text, primary_is InnerExpr _ _ (Primary.name word ts text select is h))
  target_is (Target.join opening closing ts parts h s h1) = let (es, hs) = commas_are s in (tree.Join es, primary_is InnerExpr _ _ (Primary.join opening closing ts es h hs h1))

left_is : (depth : ℕ) (ts : List Tok) (target : Left) → IsLeft depth ts target → (e : Expr) × IsExpr depth ts e
left_is zero ts target s = absurd s
left_is (suc depth) ts target s = target_is (IsLeft depth) (IsExpr depth) (left_is depth) s

pub left_spells_expr : (ts : List Tok) (target : Left) → SpellsLeft ts target → (e : Expr) × SpellsExpr ts e
left_spells_expr ts target (depth, s) = let (e, h) = left_is depth ts target s in (e, (depth, h))

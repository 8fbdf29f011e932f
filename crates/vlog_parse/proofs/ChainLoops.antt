-- The loops over operators beside `loop`.
use Rattle.std.proofs.Common.{◌≡◌, ℕ, List, [], ◌∷◌, ◌++◌, Ok, Err, Result, IsErr, IsErrAnd, Bool, true, ap, sym, subst, ◌∙◌, refl}
use Rattle.vlog_tokens.specs.Toks.{Tok}
use Rattle.vlog_tree.specs.declared.expr.Expr.{Expr}
use Rattle.vlog_tree.specs.declared.expr.Expr.TheVariants as expr
use Rattle.vlog_tree.specs.declared.expr.UnOp.{UnOp}
use Rattle.vlog_parse.specs.Chains.{chain, one_unary, operation, sees_binary, sees_unary, unary_operators, wrap}
use Rattle.vlog_parse.specs.Reads.{Outcome, Parser, Reads, ReadsInto, and_then, loop, one_more}
use Rattle.vlog_numbers.specs.declared.fault.Fault.{Fault}
use Rattle.vlog_numbers.specs.declared.fault.Fault.TheVariants as fault
use Rattle.vlog_parse.proofs.Loops.{GoesOn, begins, stuck_at}

pub unary_begins : (none : List UnOp) (ts : List Tok) → none ≡ [] → GoesOn sees_unary (one_more one_unary) (unary_operators ts) none ts
unfolding unary_operators
unary_begins none ts is_none = subst (λ (state : List UnOp). GoesOn sees_unary (one_more one_unary) (unary_operators ts) state ts) (sym is_none) (begins sees_unary (one_more one_unary) [] ts)

wrap_last : (ops : List UnOp) (op : UnOp) (e : Expr) → wrap (ops ++ op ∷ []) e ≡ wrap ops (expr.Unary op e)
wrap_last [] op e = refl
wrap_last (first ∷ ops) op e = ap (λ (inner : Expr). expr.Unary first inner) (wrap_last ops op e)

pub wrap_turn : (all ops : List UnOp) (op : UnOp) (e boxed : Expr) → all ≡ ops ++ op ∷ [] → boxed ≡ e → wrap all e ≡ wrap ops (expr.Unary op boxed)
wrap_turn all ops op e boxed is same = ap (λ (xs : List UnOp). wrap xs e) is ∙ wrap_last ops op e ∙ ap (λ (inner : Expr). wrap ops (expr.Unary op inner)) (sym same)

pub chain_goes_on : (level : ℕ) (rule : Parser Expr) (ts : List Tok) (first : Expr) (left : List Tok) → rule ts ≡ Ok (first, left)
    → chain level rule ts ≡ loop (sees_binary level) (operation level rule) first left
unfolding chain
chain_goes_on level rule ts first left e = ap (λ (o : Outcome Expr). and_then o (loop (sees_binary level) (operation level rule))) e

into : {S : Type 0} (outcome : Outcome S) (e : Fault) (after : S) (new : List Tok) → Reads outcome (Err e) new → ReadsInto outcome (Err e) after new
into outcome fault.Token after new s = s
into outcome fault.Memory after new s = tt

-- a turn that gives a fault is what the whole reads, where the state is given back
pub stuck_in : {S : Type 0} (goes : List Tok → Bool) (step : S → Parser S) (whole : Outcome S) (state : S) (left new : List Tok) (e : Fault) → GoesOn goes step whole state left → goes left ≡ true → Reads (step state left) (Err e) new
    → (result : Result S Fault) → IsErr result × IsErrAnd result (λ f. f ≡ e) → Reads whole result new
stuck_in goes step whole state left new e on h s result gives = stuck_at goes step whole state state left new e on h (into (step state left) e state new s) result gives

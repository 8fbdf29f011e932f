-- How expressions begin.
use Rattle.std.proofs.Common.{◌≡◌, ℕ, zero, suc, Bool, true, false, List, [], ◌∷◌, ◌++◌, codes, Some, None, bytes_eq, refl, sym, ap, ◌∙◌, arith}
use Rattle.vlog_tokens.specs.Toks.{Tok}
use Rattle.vlog_tokens.specs.declared.token.TokenKind.{TokenKind}
use Rattle.vlog_tree.specs.declared.expr.Expr.{Expr}
use Rattle.vlog_tree.specs.declared.expr.UnOp.{UnOp}
use Rattle.vlog_tree.specs.Spelling.Exprs.{Binary, Conditional, IsExpr, Primary, SpellsExpr, Unary}
use Rattle.vlog_tree.specs.Spelling.Numbers.{IsNumber}
use Rattle.vlog_tree.specs.Spelling.Operators.{unary_operator}
use Rattle.vlog_tree.specs.Spelling.Parts.{Production, terminal, terminal_by}
use Rattle.vlog_parse.specs.Reads.{next_terminal, sees}
use Rattle.vlog_parse.proofs.Rules.{◌>>=◌, seen_is}
use Rattle.vlog_parse.proofs.Starts.{Starts, starts_longer, starts_with}
use Rattle.vlog_parse.proofs.Terminals.{decimal_free, name_free}

-- a word or mark that is no brace, no parenthesis and no operator
pub record IsForeign (text : List ℕ) : Type 0 where
  pub no_name : bytes_eq [] text ≡ false
  pub no_brace : bytes_eq (codes "{") text ≡ false
  pub no_parenthesis : bytes_eq (codes "(") text ≡ false
  pub no_operator : unary_operator text ≡ None

module _ (other : List ℕ) (foreign : IsForeign other) where
  number_starts : {ts : List Tok} {bits : List Bool} → IsNumber ts bits → Starts other ts
  number_starts (IsNumber.decimal digits value h) = starts_with [] other digits [] (decimal_free digits h.0) foreign.no_name
  number_starts (IsNumber.based digits bits h fits) = starts_with [] other digits [] (ap (λ (k : TokenKind). terminal_by k digits.text) h.0) foreign.no_name
  number_starts (IsNumber.sized size digits width bits h based) = starts_with [] other size (digits ∷ []) (decimal_free size h.0) foreign.no_name

  operator_starts : (tok : Tok) (more : List Tok) (op : UnOp) → unary_operator (terminal tok) ≡ Some op → Starts other (tok ∷ more)
  operator_starts tok more op h = (omega arith, λ rest. by (sees other (tok ∷ (more ++ rest))) rest refl)
    where
      by : (b : Bool) (rest : List Tok) → sees other (tok ∷ (more ++ rest)) ≡ b → b ≡ false
      by false rest seen = refl
      by true rest seen = do
        (first, left, is, met) ← seen_is other (tok ∷ (more ++ rest)) seen
        none ← sym (ap unary_operator (ap next_terminal is ∙ met)) ∙ h
        no_operator ← foreign.no_operator
        cc

  module _ (Inner : Production Expr) where
    primary_starts : {ts : List Tok} {e : Expr} → Primary Inner ts e → Starts other ts
    primary_starts (Primary.number ts bits h) = number_starts h
    primary_starts (Primary.name word ts text select h is) = starts_with [] other word ts (name_free word text h) foreign.no_name
    primary_starts (Primary.join opening closing ts parts h is h1) = starts_with (codes "{") other opening (ts ++ closing ∷ []) h foreign.no_brace
    primary_starts (Primary.repeat opening digits inner closing last ts count parts h is h1 s h2 h3) = starts_with (codes "{") other opening (digits ∷ inner ∷ (ts ++ closing ∷ last ∷ [])) h foreign.no_brace
    primary_starts (Primary.parentheses opening closing ts e h is h1) = starts_with (codes "(") other opening (ts ++ closing ∷ []) h foreign.no_parenthesis

    unary_starts : {ts : List Tok} {e : Expr} → Unary Inner ts e → Starts other ts
    unary_starts (Unary.primary ts e h) = primary_starts h
    unary_starts (Unary.operator tok ts op e h u) = operator_starts tok ts op h

    binary_starts : {level : ℕ} {ts : List Tok} {e : Expr} → Binary Inner level ts e → Starts other ts
    binary_starts (Binary.unary ts e h) = unary_starts h
    binary_starts (Binary.tighter level ts e h) = binary_starts h
    binary_starts (Binary.operator level front back tok op left right a h b) = starts_longer other front (tok ∷ back) (binary_starts a)

    conditional_starts : {ts : List Tok} {e : Expr} → Conditional Inner ts e → Starts other ts
    conditional_starts (Conditional.plain ts e h) = binary_starts h
    conditional_starts (Conditional.choice front middle back question colon cond first second a h b h1 c) = starts_longer other front (question ∷ (middle ++ colon ∷ back)) (binary_starts a)

  is_expr_starts : (n : ℕ) (ts : List Tok) (e : Expr) → IsExpr n ts e → Starts other ts
  is_expr_starts zero ts e s = absurd s
  is_expr_starts (suc n) ts e s = conditional_starts (IsExpr n) s

  -- An expression takes a token, and begins with no such word or mark.
  pub expr_starts : (ts : List Tok) (e : Expr) → SpellsExpr ts e → Starts other ts
  expr_starts ts e (n, s) = is_expr_starts n ts e s

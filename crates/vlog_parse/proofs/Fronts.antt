-- How numbers, left sides and expressions begin.
use Rattle.std.proofs.Common.{◌≡◌, ℕ, zero, suc, Bool, true, false, List, [], ◌∷◌, ◌++◌, codes, Option, Some, None, bytes_eq, refl, sym, ap, ◌∙◌}
use Rattle.std.proofs.lemmas.Slice.Eq.{bytes_eq-Decides}
use Rattle.vlog_tokens.specs.Toks.{Tok}
use Rattle.vlog_tree.specs.declared.expr.Expr.{Expr}
use Rattle.vlog_tree.specs.declared.expr.Expr.TheVariants as expr
use Rattle.vlog_tree.specs.declared.expr.UnOp.{UnOp}
use Rattle.vlog_tree.specs.declared.left.Left.{Left}
use Rattle.vlog_tree.specs.Spelling.Exprs.{Binary, Conditional, IsExpr, Primary, SpellsExpr, Unary, named}
use Rattle.vlog_tree.specs.Spelling.Lefts.{IsLeft, SpellsLeft, Target}
use Rattle.vlog_tree.specs.Spelling.Numbers.{IsNumber}
use Rattle.vlog_tree.specs.Spelling.Operators.{unary_operator}
use Rattle.vlog_tree.specs.Spelling.Parts.{Commas, Is, place_of, terminal, terminal_by}
use Rattle.vlog_tokens.specs.declared.token.TokenKind.{TokenKind}
use Rattle.vlog_tokens.specs.declared.token.TokenKind.TheVariants.{Based}
use Rattle.vlog_parse.proofs.Terminals.{decimal_free, name_free}

-- a first token that is none of `,`, `)`, `.` and `#`
pub record Begins (ts : List Tok) : Type 0 where
  pub first : Tok
  pub rest : List Tok
  pub is : ts ≡ first ∷ rest
  pub no_comma : bytes_eq (terminal first) (codes ",") ≡ false
  pub no_closing : bytes_eq (terminal first) (codes ")") ≡ false
  pub no_dot : bytes_eq (terminal first) (codes ".") ≡ false
  pub no_hash : bytes_eq (terminal first) (codes "#") ≡ false

pub with_text : (text : List ℕ) (first : Tok) (rest : List Tok) → Is text first → bytes_eq text (codes ",") ≡ false → bytes_eq text (codes ")") ≡ false → bytes_eq text (codes ".") ≡ false → bytes_eq text (codes "#") ≡ false → Begins (first ∷ rest)
with_text text first rest h a b c d = record {
  first = first;
  rest = rest;
  is = refl;
  no_comma = ap (λ (t : List ℕ). bytes_eq t (codes ",")) h ∙ a;
  no_closing = ap (λ (t : List ℕ). bytes_eq t (codes ")")) h ∙ b;
  no_dot = ap (λ (t : List ℕ). bytes_eq t (codes ".")) h ∙ c;
  no_hash = ap (λ (t : List ℕ). bytes_eq t (codes "#")) h ∙ d;
}

pub with_name : (word : Tok) (rest : List Tok) → terminal word ≡ [] → Begins (word ∷ rest)
with_name word rest h = with_text [] word rest h refl refl refl refl

based_free_by : (kind : TokenKind) (text : List ℕ) → kind ≡ Based → terminal_by kind text ≡ []
based_free_by kind text e = rw e refl

-- A based token is no reserved word and no mark.
pub based_free : (tok : Tok) → tok.kind ≡ Based → terminal tok ≡ []
based_free tok h = based_free_by tok.kind tok.text h

pub number_begins : (ts : List Tok) (bits : List Bool) → IsNumber ts bits → Begins ts
number_begins ts bits (IsNumber.decimal digits value h) = with_name digits [] (decimal_free digits h.0)
number_begins ts bits (IsNumber.based digits given h fits) = with_name digits [] (based_free digits h.0)
number_begins ts bits (IsNumber.sized size digits width given h based) = with_name size (digits ∷ []) (decimal_free size h.0)

no_operator : (text other : List ℕ) (op : UnOp) → unary_operator text ≡ Some op → ◌≡◌ {A = Option UnOp} (unary_operator other) None → bytes_eq text other ≡ false
no_operator text other op h none = by (bytes_eq text other) refl
  where
    by : (b : Bool) → bytes_eq text other ≡ b → bytes_eq text other ≡ false
    by false e = e
    by true e =
        let same : text ≡ other = (bytes_eq-Decides text other).0 e in
        let both : ◌≡◌ {A = Option UnOp} (Some op) None = sym h ∙ ap unary_operator same ∙ none in
        cc

-- More tokens after it change nothing.
pub goes_further : (front back : List Tok) → Begins front → Begins (front ++ back)
goes_further front back b = record {
  first = b.first;
  rest = b.rest ++ back;
  is = ap (λ (xs : List Tok). xs ++ back) b.is;
  no_comma = b.no_comma;
  no_closing = b.no_closing;
  no_dot = b.no_dot;
  no_hash = b.no_hash;
}

module _ (Inner : List Tok → Expr → Type 0) where
  primary_begins : {ts : List Tok} {e : Expr} → Primary Inner ts e → Begins ts
  primary_begins (Primary.number ts bits h) = number_begins ts bits h
  primary_begins (Primary.name word ts text select h s) = with_name word ts (name_free word text h)
  primary_begins (Primary.join opening closing ts parts h s g) = with_text (codes "{") opening _ h refl refl refl refl
  primary_begins (Primary.repeat opening digits inner closing last ts count parts h c i s g l) = with_text (codes "{") opening _ h refl refl refl refl
  primary_begins (Primary.parentheses opening closing ts e h s g) = with_text (codes "(") opening _ h refl refl refl refl

  unary_begins : {ts : List Tok} {e : Expr} → Unary Inner ts e → Begins ts
  unary_begins (Unary.primary ts e s) = primary_begins s
  unary_begins (Unary.operator tok ts op e h s) = record {
    first = tok;
    rest = ts;
    is = refl;
    no_comma = no_operator (terminal tok) (codes ",") op h refl;
    no_closing = no_operator (terminal tok) (codes ")") op h refl;
    no_dot = no_operator (terminal tok) (codes ".") op h refl;
    no_hash = no_operator (terminal tok) (codes "#") op h refl;
  }

  binary_begins : {level : ℕ} {ts : List Tok} {e : Expr} → Binary Inner level ts e → Begins ts
  binary_begins (Binary.unary ts e s) = unary_begins s
  binary_begins (Binary.tighter level ts e s) = binary_begins s
  binary_begins (Binary.operator level front back tok op left right s h t) = goes_further front (tok ∷ back) (binary_begins s)

  conditional_begins : {ts : List Tok} {e : Expr} → Conditional Inner ts e → Begins ts
  conditional_begins (Conditional.plain ts e s) = binary_begins s
  conditional_begins (Conditional.choice front middle back question colon cond first second s h t g u) = goes_further front (question ∷ (middle ++ colon ∷ back)) (binary_begins s)

expr_begins_by : (depth : ℕ) (ts : List Tok) (e : Expr) → IsExpr depth ts e → Begins ts
expr_begins_by zero ts e s = absurd s
expr_begins_by (suc depth) ts e s = conditional_begins (IsExpr depth) s

pub expr_begins : (ts : List Tok) (e : Expr) → SpellsExpr ts e → Begins ts
expr_begins ts e (depth, s) = expr_begins_by depth ts e s

-- ---- a left side is also an expression

commas_too : {A B : Type 0} {P : List Tok → A → Type 0} {Q : List Tok → B → Type 0} → ((ts : List Tok) (a : A) → P ts a → (b : B) × Q ts b) → {ts : List Tok} {xs : List A} → Commas P ts xs → (ys : List B) × Commas Q ts ys
commas_too too (Commas.last only a s) = (let (b, t) = too only a s in (b ∷ [], Commas.last only b t))
commas_too too (Commas.next first comma rest a others s h more) =
    let (b, t) = too first a s in
    let (ys, also) = commas_too too more in
    (b ∷ ys, Commas.next first comma rest b ys t h also)

primary_expr : (depth : ℕ) (ts : List Tok) (e : Expr) → Primary (IsExpr depth) ts e → IsExpr (suc depth) ts e
primary_expr depth ts e s =
    let tighter = Binary.tighter 0 ts e (Binary.unary ts e (Unary.primary ts e s)) in
    Conditional.plain ts e (Binary.tighter 5 ts e (Binary.tighter 4 ts e (Binary.tighter 3 ts e (Binary.tighter 2 ts e (Binary.tighter 1 ts e tighter)))))

left_is_expr_by : (depth : ℕ) (ts : List Tok) (target : Left) → IsLeft depth ts target → (e : Expr) × IsExpr depth ts e
left_is_expr_by zero ts target s = absurd s
left_is_expr_by (suc depth) ts target (Target.name word rest text select h s) = (named select word.at text, primary_expr depth _ _ (Primary.name word rest text select h s))
left_is_expr_by (suc depth) ts target (Target.join opening closing us parts h s g) =
    let (es, also) = commas_too (left_is_expr_by depth) s in
    (expr.Join es, primary_expr depth _ _ (Primary.join opening closing us es h also g))

pub left_is_expr : (ts : List Tok) (target : Left) → SpellsLeft ts target → (e : Expr) × SpellsExpr ts e
left_is_expr ts target (depth, s) = let (e, t) = left_is_expr_by depth ts target s in (e, (depth, t))

pub left_begins : (ts : List Tok) (target : Left) → SpellsLeft ts target → Begins ts
left_begins ts target s = let (e, t) = left_is_expr ts target s in expr_begins ts e t

-- The place of tokens is that of the first, whatever follows.
pub place_front : (ts back : List Tok) → Begins ts → place_of (ts ++ back) ≡ place_of ts
place_front ts back b = ap (λ (xs : List Tok). place_of (xs ++ back)) b.is ∙ ap place_of (sym b.is)

pub place_before : (front : List Tok) (tok : Tok) (rest : List Tok) → place_of (front ++ tok ∷ rest) ≡ place_of (front ++ tok ∷ [])
place_before [] tok rest = refl
place_before (first ∷ front) tok rest = refl

-- How an expression begins: with a token, and never with a decimal and a brace, which begin a replication.
use Rattle.std.proofs.Common.{◌≡◌, ◌<◌, ◌&&◌, ℕ, zero, suc, Bool, true, false, List, [], ◌∷◌, ◌++◌, length, codes, Some, bytes_eq, is_some, refl, sym, ap, ◌∙◌, subst, append_assoc, length-append, arith}
use Rattle.std.proofs.lemmas.Slice.Eq.{bytes_eq-Decides}
use Rattle.vlog_tokens.specs.Toks.{Tok}
use Rattle.vlog_tokens.specs.declared.token.TokenKind.{TokenKind}
use Rattle.vlog_tokens.specs.declared.token.TokenKind.TheVariants.{Word, Escaped, System, Decimal, Based, Text, Mark}
use Rattle.vlog_tree.specs.declared.expr.BinOp.{BinOp}
use Rattle.vlog_tree.specs.declared.expr.Expr.{Expr}
use Rattle.vlog_tree.specs.declared.expr.UnOp.{UnOp}
use Rattle.vlog_tree.specs.Spelling.Exprs.{Binary, Conditional, IsExpr, Primary, Unary}
use Rattle.vlog_tree.specs.Spelling.Numbers.{IsBased, IsNumber}
use Rattle.vlog_tree.specs.Spelling.Operators.{binary_operator, unary_operator}
use Rattle.vlog_tree.specs.Spelling.Parts.{Commas, Is, IsName, IsNameBy, Production, terminal, terminal_by}
use Rattle.vlog_parse.specs.Looks.{is_decimal, sees_decimal_before, sees_name}
use Rattle.vlog_parse.specs.Reads.{next_terminal, sees}
use Rattle.vlog_numbers.specs.Terminals.{name_by, name_of}
use Rattle.vlog_parse.proofs.Rules.{sees_other}
use Rattle.vlog_parse.proofs.Terminals.{based_free, decimal_free}

-- ---- what is no decimal

decimal_has_none : (kind : TokenKind) (text : List ℕ) → is_decimal kind ≡ true → terminal_by kind text ≡ []
decimal_has_none Decimal text h = refl
decimal_has_none Word text h = cc
decimal_has_none Escaped text h = cc
decimal_has_none System text h = cc
decimal_has_none Based text h = cc
decimal_has_none Text text h = cc
decimal_has_none Mark text h = cc

some_not_decimal : (tok : Tok) → (terminal tok ≡ [] → ⊥) → is_decimal tok.kind ≡ false
some_not_decimal tok some = by (is_decimal tok.kind) refl
  where
    by : (b : Bool) → is_decimal tok.kind ≡ b → is_decimal tok.kind ≡ false
    by true e = absurd (some (decimal_has_none tok.kind tok.text e))
    by false e = e

mark_not_decimal : (text : List ℕ) (tok : Tok) → Is text tok → (text ≡ [] → ⊥) → is_decimal tok.kind ≡ false
mark_not_decimal text tok h some = some_not_decimal tok (λ e. some (sym h ∙ e))

unary_not_decimal : (tok : Tok) (op : UnOp) → unary_operator (terminal tok) ≡ Some op → is_decimal tok.kind ≡ false
unary_not_decimal tok op h = some_not_decimal tok (λ e. let no : unary_operator [] ≡ Some op = sym (ap unary_operator e) ∙ h in cc)

name_not_decimal_by : (kind : TokenKind) (text name : List ℕ) → IsNameBy kind text name → is_decimal kind ≡ false
name_not_decimal_by Word text name h = refl
name_not_decimal_by Escaped text name h = refl
name_not_decimal_by System text name h = absurd h
name_not_decimal_by Decimal text name h = absurd h
name_not_decimal_by Based text name h = absurd h
name_not_decimal_by Text text name h = absurd h
name_not_decimal_by Mark text name h = absurd h

name_not_decimal : (tok : Tok) (name : List ℕ) → IsName tok name → is_decimal tok.kind ≡ false
name_not_decimal tok name h = name_not_decimal_by tok.kind tok.text name h

based_not_decimal : (tok : Tok) (bits : List Bool) → IsBased tok bits → is_decimal tok.kind ≡ false
based_not_decimal tok bits h = ap is_decimal h.0

-- ---- what numbers begin with

unnamed : (tok : Tok) → is_some (name_by tok.kind tok.text) ≡ false → is_some (name_of tok) ≡ false
unfolding name_of
unnamed tok h = h

decimal_unnamed : (tok : Tok) → tok.kind ≡ Decimal → is_some (name_of tok) ≡ false
decimal_unnamed tok h = unnamed tok (ap (λ kind. is_some (name_by kind tok.text)) h)

based_unnamed : (tok : Tok) → tok.kind ≡ Based → is_some (name_of tok) ≡ false
based_unnamed tok h = unnamed tok (ap (λ kind. is_some (name_by kind tok.text)) h)

-- neither a reserved word nor a mark nor a name
pub number_first : {ts : List Tok} {bits : List Bool} → IsNumber ts bits → (rest : List Tok) → (next_terminal (ts ++ rest) ≡ []) × (sees_name (ts ++ rest) ≡ false)
number_first (IsNumber.decimal digits value h) rest = (decimal_free digits h.0, decimal_unnamed digits h.0)
number_first (IsNumber.based digits bits h fits) rest = (based_free digits h.0, based_unnamed digits h.0)
number_first (IsNumber.sized size digits width bits h based) rest = (decimal_free size h.0, decimal_unnamed size h.0)

-- ---- the first two tokens

first_other : (text : List ℕ) (tok : Tok) (ts : List Tok) → is_decimal tok.kind ≡ false → sees_decimal_before text (tok ∷ ts) ≡ false
first_other text tok [] h = refl
first_other text tok (second ∷ rest) h = rw h refl

and_false : (a b : Bool) → b ≡ false → (a && b) ≡ false
and_false true b h = h
and_false false b h = refl

second_other : (text : List ℕ) (tok : Tok) (ts : List Tok) → sees text ts ≡ false → sees_decimal_before text (tok ∷ ts) ≡ false
second_other text tok [] h = refl
second_other text tok (second ∷ rest) h = and_false (is_decimal tok.kind) (bytes_eq (terminal second) text) h

abbrev pub NoRepeat : List Tok → Type 0
NoRepeat ts = sees_decimal_before (codes "{") ts ≡ false

abbrev pub NoBrace : List Tok → Type 0
NoBrace rest = sees (codes "{") rest ≡ false

number_begins : {ts : List Tok} {bits : List Bool} → IsNumber ts bits → (rest : List Tok) → NoBrace rest → NoRepeat (ts ++ rest)
number_begins (IsNumber.decimal digits value h) rest bare = second_other (codes "{") digits rest bare
number_begins (IsNumber.based digits bits h fits) rest bare = first_other (codes "{") digits rest (based_not_decimal digits bits h)
number_begins (IsNumber.sized size digits width bits h based) rest bare = second_other (codes "{") size (digits ∷ rest) (ap (λ (t : List ℕ). bytes_eq t (codes "{")) (based_free digits based.0))

no_brace : (text : List ℕ) (n : ℕ) (op : BinOp) → binary_operator text ≡ Some (n, op) → bytes_eq text (codes "{") ≡ false
no_brace text n op h = by (bytes_eq text (codes "{")) refl
  where
    by : (b : Bool) → bytes_eq text (codes "{") ≡ b → bytes_eq text (codes "{") ≡ false
    by true e = (let same = (bytes_eq-Decides text (codes "{")).0 e in let no : binary_operator (codes "{") ≡ Some (n, op) = sym (ap binary_operator same) ∙ h in cc)
    by false e = e

module _ (Inner : Production Expr) where
  primary_begins : {ts : List Tok} {e : Expr} → Primary Inner ts e → (rest : List Tok) → NoBrace rest → NoRepeat (ts ++ rest)
  primary_begins (Primary.number ts bits is) rest bare = number_begins is rest bare
  primary_begins (Primary.name word ts text select is s) rest bare = first_other (codes "{") word (ts ++ rest) (name_not_decimal word text is)
  primary_begins (Primary.join opening closing ts parts h1 s h2) rest bare = first_other (codes "{") opening ((ts ++ closing ∷ []) ++ rest) (mark_not_decimal (codes "{") opening h1 (λ e. cc))
  primary_begins (Primary.repeat opening digits second closing last ts count parts h1 h2 h3 s h4 h5) rest bare =
      first_other (codes "{") opening (digits ∷ second ∷ ((ts ++ closing ∷ last ∷ []) ++ rest)) (mark_not_decimal (codes "{") opening h1 (λ e. cc))
  primary_begins (Primary.parentheses opening closing ts e h1 s h2) rest bare = first_other (codes "{") opening ((ts ++ closing ∷ []) ++ rest) (mark_not_decimal (codes "(") opening h1 (λ e. cc))

  unary_begins : {ts : List Tok} {e : Expr} → Unary Inner ts e → (rest : List Tok) → NoBrace rest → NoRepeat (ts ++ rest)
  unary_begins (Unary.primary ts e s) rest bare = primary_begins s rest bare
  unary_begins (Unary.operator tok ts op e is s) rest bare = first_other (codes "{") tok (ts ++ rest) (unary_not_decimal tok op is)

  binary_begins : {n : ℕ} {ts : List Tok} {e : Expr} → Binary Inner n ts e → (rest : List Tok) → NoBrace rest → NoRepeat (ts ++ rest)
  binary_begins (Binary.unary ts e s) rest bare = unary_begins s rest bare
  binary_begins (Binary.tighter n ts e s) rest bare = binary_begins s rest bare
  binary_begins (Binary.operator n front back tok op left right s is s2) rest bare =
      subst NoRepeat (sym (append_assoc front (tok ∷ back) rest)) (binary_begins s (tok ∷ (back ++ rest)) (no_brace (terminal tok) (suc n) op is))

  conditional_begins : {ts : List Tok} {e : Expr} → Conditional Inner ts e → (rest : List Tok) → NoBrace rest → NoRepeat (ts ++ rest)
  conditional_begins (Conditional.plain ts e s) rest bare = binary_begins s rest bare
  conditional_begins (Conditional.choice front middle back question colon cond first second s h1 s2 h3 s4) rest bare =
      subst NoRepeat (sym (append_assoc front (question ∷ (middle ++ colon ∷ back)) rest))
      (binary_begins s (question ∷ ((middle ++ colon ∷ back) ++ rest)) (sees_other (codes "?") (codes "{") question ((middle ++ colon ∷ back) ++ rest) h1 refl))

  -- ---- there is a token at least

  number_some : {ts : List Tok} {bits : List Bool} → IsNumber ts bits → 0 < length ts
  number_some (IsNumber.decimal digits value h) = omega arith
  number_some (IsNumber.based digits bits h fits) = omega arith
  number_some (IsNumber.sized size digits width bits h based) = omega arith

  primary_some : {ts : List Tok} {e : Expr} → Primary Inner ts e → 0 < length ts
  primary_some (Primary.number ts bits is) = number_some is
  primary_some (Primary.name word ts text select is s) = omega arith
  primary_some (Primary.join opening closing ts parts h1 s h2) = omega arith
  primary_some (Primary.repeat opening digits second closing last ts count parts h1 h2 h3 s h4 h5) = omega arith
  primary_some (Primary.parentheses opening closing ts e h1 s h2) = omega arith

  unary_some : {ts : List Tok} {e : Expr} → Unary Inner ts e → 0 < length ts
  unary_some (Unary.primary ts e s) = primary_some s
  unary_some (Unary.operator tok ts op e is s) = omega arith

  binary_some : {n : ℕ} {ts : List Tok} {e : Expr} → Binary Inner n ts e → 0 < length ts
  binary_some (Binary.unary ts e s) = unary_some s
  binary_some (Binary.tighter n ts e s) = binary_some s
  binary_some (Binary.operator n front back tok op left right s is s2) = rw length-append (omega arith)

  conditional_some : {ts : List Tok} {e : Expr} → Conditional Inner ts e → 0 < length ts
  conditional_some (Conditional.plain ts e s) = binary_some s
  conditional_some (Conditional.choice front middle back question colon cond first second s h1 s2 h3 s4) = rw length-append (omega arith)

-- An expression doesn't begin as a replication, if no brace follows it.
pub expr_begins : (depth : ℕ) (ts : List Tok) (e : Expr) (rest : List Tok) → IsExpr depth ts e → NoBrace rest → NoRepeat (ts ++ rest)
expr_begins zero ts e rest s bare = absurd s
expr_begins (suc depth) ts e rest s bare = conditional_begins (IsExpr depth) s rest bare

pub expr_some : (depth : ℕ) (ts : List Tok) (e : Expr) → IsExpr depth ts e → 0 < length ts
expr_some zero ts e s = absurd s
expr_some (suc depth) ts e s = conditional_some (IsExpr depth) s

-- The same of a list of them.
pub commas_begin : (Inner : Production Expr) → ((ts : List Tok) (e : Expr) (rest : List Tok) → Inner ts e → NoBrace rest → NoRepeat (ts ++ rest))
    → {ts : List Tok} {es : List Expr} → Commas Inner ts es → (rest : List Tok) → NoBrace rest → NoRepeat (ts ++ rest)
commas_begin Inner begins (Commas.last only e s) rest bare = begins only e rest s bare
commas_begin Inner begins (Commas.next first comma more e others s is spelled) rest bare =
    subst NoRepeat (sym (append_assoc first (comma ∷ more) rest)) (begins first e (comma ∷ (more ++ rest)) s (sees_other (codes ",") (codes "{") comma (more ++ rest) is refl))

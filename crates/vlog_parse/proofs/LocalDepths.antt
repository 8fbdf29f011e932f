-- Expressions and left sides, to any depth.
use Rattle.std.proofs.Common.{◌≡◌, ℕ, zero, suc, Bool, true, false, List, [], ◌∷◌, length, codes, Option, Some, None, Ok, Err, if◌then◌else◌, refl, sym, ap, ◌∙◌, arith}
use Rattle.vlog_tokens.specs.Toks.{Tok}
use Rattle.vlog_tokens.specs.declared.token.TokenKind.{TokenKind}
use Rattle.vlog_tokens.specs.declared.token.TokenKind.TheVariants.{Decimal}
use Rattle.vlog_tree.specs.declared.expr.Expr.{Expr}
use Rattle.vlog_tree.specs.declared.expr.Expr.TheVariants as tree
use Rattle.vlog_tree.specs.declared.left.Left.{Left}
use Rattle.vlog_tree.specs.declared.left.Left.TheVariants.{Join}
use Rattle.vlog_tree.specs.Spelling.Lefts.{assigned}
use Rattle.vlog_tree.specs.Spelling.Parts.{terminal}
use Rattle.vlog_parse.specs.Chains.{chain, operation, sees_binary, unary_operators}
use Rattle.vlog_parse.specs.Exprs.{conditional, expr, level, literal, primary, unary}
use Rattle.vlog_numbers.specs.Values.{sees_based}
use Rattle.vlog_parse.specs.Numbers.{decimal_number, number, sized_digits, sized_number}
use Rattle.vlog_parse.specs.Lefts as lefts
use Rattle.vlog_parse.specs.Reads.{Parser, and_then, loop, loop_from, pure, refuse, sees, take_if, taken_by}
use Rattle.vlog_parse.specs.Selects.{select_of}
use Rattle.vlog_numbers.specs.Terminals.{decimal_of, name_by, name_of}
use Rattle.vlog_parse.specs.Terminals.{decimal}
use Rattle.vlog_parse.proofs.LocalExprs.{Firsts, Past, conditional_local, ended_local, level_loop, only_keeps, past_as, past_then}
use Rattle.vlog_parse.proofs.LocalLoops.{separated_local}
use Rattle.vlog_parse.proofs.LocalNumbers.{digits_local, name_local, no_decimal, select_local}
use Rattle.vlog_parse.proofs.Locals.{Keeps, Local, expect_local, expected_local, here_local, if_local, pure_local, refuse_local, same_left, then_local}
use Rattle.vlog_parse.proofs.Rules.{sees_other}
use Rattle.vlog_parse.proofs.Terminals.{decimal_free}

decimal_past : (tok : Tok) (rest : List Tok) (value : ℕ) → decimal_of tok ≡ Some value → Past (decimal (tok ∷ rest)) (length rest)
unfolding decimal take_if
decimal_past tok rest value h found left e =
    let same = ap (length {A = Tok}) (same_left (Some value) found rest left (ap (λ (o : Option ℕ). taken_by o tok rest) (sym h) ∙ e)) in
    omega arith

no_firsts : {inner : Parser Expr} → Firsts 0 inner
no_firsts = record {
  past = λ some tok rest value kind h. absurd (omega arith);
  stuck = λ some tok rest kind h. absurd (omega arith);
}

module _ (tok : Tok) (rest : List Tok) (kind : tok.kind ≡ Decimal) where
  unbased_by : (kind : TokenKind) → kind ≡ Decimal → (text : List ℕ) → name_by kind text ≡ None
  unbased_by kind h text = rw h refl

  unnamed : name_of tok ≡ None
  unfolding name_of
  unnamed = unbased_by tok.kind kind tok.text

  number_is : number (tok ∷ rest) ≡ (if sees_based rest then sized_number else decimal_number) (tok ∷ rest)
  unfolding number
  number_is = rw kind refl

  number_past_by : (size : Bool) (value : ℕ) → decimal_of tok ≡ Some value → Past ((if size then sized_number else decimal_number) (tok ∷ rest)) (length rest)
  unfolding sized_number decimal_number
  number_past_by true value h = past_then (decimal (tok ∷ rest)) sized_digits (length rest) (λ width. (let digits : Local 0 0 (sized_digits width) (sized_digits width) = digits_local width in digits.keeps)) (decimal_past tok rest value h)
  number_past_by false value h = past_then (decimal (tok ∷ rest)) _ (length rest) (λ value. (let stays : Local 0 0 _ _ = pure_local _ in stays.keeps)) (decimal_past tok rest value h)

  number_stuck_by : (size : Bool) → decimal_of tok ≡ None → (if size then sized_number else decimal_number) (tok ∷ rest) ≡ Err (tok ∷ rest)
  unfolding sized_number decimal_number
  number_stuck_by true h = no_decimal sized_digits tok rest h
  number_stuck_by false h = no_decimal _ tok rest h

  -- ---- through all levels

  free : terminal tok ≡ []
  free = decimal_free tok kind

  literal_is : (inner : Parser Expr) → primary inner (tok ∷ rest) ≡ literal (tok ∷ rest)
  unfolding primary
  literal_is inner = rw (sees_other [] (codes "(") tok rest free refl, sees_other [] (codes "{") tok rest free refl, unnamed) refl

  no_operators : unary_operators (tok ∷ rest) ≡ Ok ([], tok ∷ rest)
  unfolding unary_operators loop loop_from
  no_operators = rw free refl

  module _ {inner : Parser Expr} (keeps : Keeps inner) where
    local : Local 0 0 inner inner
    local = only_keeps keeps

    number_past : (value : ℕ) → decimal_of tok ≡ Some value → Past (number (tok ∷ rest)) (length rest)
    number_past value h = past_as (number (tok ∷ rest)) _ (length rest) number_is (number_past_by (sees_based rest) value h)

    literal_past : (value : ℕ) → decimal_of tok ≡ Some value → Past (literal (tok ∷ rest)) (length rest)
    unfolding literal
    literal_past value h = past_then (number (tok ∷ rest)) _ (length rest) (λ bits. (let stays : Local 0 0 (pure (tree.Number tok.at bits)) (pure (tree.Number tok.at bits)) = pure_local (tree.Number tok.at bits) in stays.keeps)) (number_past value h)

    unary_is : unary inner (tok ∷ rest) ≡ and_then (literal (tok ∷ rest)) (λ e. pure e)
    unfolding unary
    unary_is = rw (no_operators, literal_is inner) refl

    level_past : (k value : ℕ) → decimal_of tok ≡ Some value → Past (level inner k (tok ∷ rest)) (length rest)
    unfolding chain
    level_past zero value h =
        past_as (unary inner (tok ∷ rest)) _ (length rest) unary_is
        (past_then (literal (tok ∷ rest)) (λ e. pure e) (length rest) (λ e. (let stays : Local 0 0 (pure e) (pure e) = pure_local e in stays.keeps)) (literal_past value h))
    level_past (suc below) value h =
        past_then (level inner below (tok ∷ rest)) (loop (sees_binary (suc below)) (operation (suc below) (level inner below))) (length rest) (λ first. (level_loop local no_firsts no_firsts below first).keeps) (level_past below value h)

    literal_stuck : decimal_of tok ≡ None → literal (tok ∷ rest) ≡ Err (tok ∷ rest)
    unfolding literal
    literal_stuck h = rw (number_is, number_stuck_by (sees_based rest) h) refl

    level_stuck : (k : ℕ) → decimal_of tok ≡ None → level inner k (tok ∷ rest) ≡ Err (tok ∷ rest)
    unfolding chain
    level_stuck zero h = rw (unary_is, literal_stuck h) refl
    level_stuck (suc below) h = rw (level_stuck below h) refl

    conditional_past : (value : ℕ) → decimal_of tok ≡ Some value → Past (conditional inner (tok ∷ rest)) (length rest)
    unfolding conditional
    conditional_past value h = past_then (level inner 6 (tok ∷ rest)) _ (length rest) (λ cond. (ended_local local no_firsts no_firsts cond).keeps) (level_past 6 value h)

    conditional_stuck : decimal_of tok ≡ None → conditional inner (tok ∷ rest) ≡ Err (tok ∷ rest)
    unfolding conditional
    conditional_stuck h = rw (level_stuck 6 h) refl

-- ---- expressions

expr_keeps : (depth : ℕ) → Keeps (expr depth)
unfolding expr
expr_keeps zero = (let none : Local 0 0 (refuse {A = Expr}) (refuse {A = Expr}) = refuse_local in none.keeps)
expr_keeps (suc depth) = (conditional_local (only_keeps (expr_keeps depth)) no_firsts no_firsts).keeps

expr_firsts : (depth : ℕ) → Firsts depth (expr depth)
unfolding expr
expr_firsts zero = no_firsts
expr_firsts (suc depth) = record {
  past = λ some tok rest value kind h. conditional_past tok rest kind (expr_keeps depth) value h;
  stuck = λ some tok rest kind h. conditional_stuck tok rest kind (expr_keeps depth) h;
}

pub expr_local : (depth depth2 : ℕ) → Local depth depth2 (expr depth) (expr depth2)
unfolding expr
expr_local zero depth2 = record { keeps = expr_keeps zero; moves = λ front tok rest more found fits fits2 e. absurd (omega arith) }
expr_local (suc depth) zero = record { keeps = expr_keeps (suc depth); moves = λ front tok rest more found fits fits2 e. absurd (omega arith) }
expr_local (suc depth) (suc depth2) = conditional_local (expr_local depth depth2) (expr_firsts depth) (expr_firsts depth2)

-- ---- left sides

module _ {n m : ℕ} where
  left_named_local : Local n m lefts.named lefts.named
  unfolding lefts.named
  left_named_local = then_local here_local (λ at. then_local name_local (λ text. then_local select_local (λ found. pure_local (assigned (select_of found) at text))))

  module _ {inner inner2 : Parser Left} (local : Local n m inner inner2) where
    left_join_local : Local (suc n) (suc m) (lefts.join inner) (lefts.join inner2)
    unfolding lefts.join
    left_join_local = expected_local (codes "{") (λ _. then_local (separated_local local) (λ parts. then_local (expect_local (codes "}")) (λ _. pure_local (Join parts))))

left_target_local : {n m : ℕ} {inner inner2 : Parser Left} → Local n m inner inner2 → Local (suc n) (suc m) (lefts.target inner) (lefts.target inner2)
unfolding lefts.target
left_target_local local = if_local (sees (codes "{")) (λ tok rest more. refl) (left_join_local local) left_named_local

left_keeps : (depth : ℕ) → Keeps (lefts.left depth)
unfolding lefts.left
left_keeps zero = (let none : Local 0 0 (refuse {A = Left}) (refuse {A = Left}) = refuse_local in none.keeps)
left_keeps (suc depth) = (left_target_local (only_keeps (left_keeps depth))).keeps

pub left_local : (depth depth2 : ℕ) → Local depth depth2 (lefts.left depth) (lefts.left depth2)
unfolding lefts.left
left_local zero depth2 = record { keeps = left_keeps zero; moves = λ front tok rest more found fits fits2 e. absurd (omega arith) }
left_local (suc depth) zero = record { keeps = left_keeps (suc depth); moves = λ front tok rest more found fits fits2 e. absurd (omega arith) }
left_local (suc depth) (suc depth2) = left_target_local (left_local depth depth2)

-- What the rules of expressions make of the tokens up to one of them.
use Rattle.std.proofs.Common.{◌≡◌, ◌<◌, ◌≤◌, ◌+◌, ◌&&◌, ℕ, zero, suc, Bool, true, false, List, [], ◌∷◌, ◌++◌, length, length-append, codes, Option, Some, None, Ok, Err, if◌then◌else◌, bytes_eq, refl, sym, ap, ◌∙◌, arith}
use Rattle.vlog_tokens.specs.Toks.{Tok}
use Rattle.vlog_tokens.specs.declared.token.TokenKind.{TokenKind}
use Rattle.vlog_tokens.specs.declared.token.TokenKind.TheVariants.{Word, Escaped, System, Decimal, Based, Text, Mark}
use Rattle.vlog_tree.specs.declared.expr.Expr.{Expr}
use Rattle.vlog_tree.specs.declared.expr.Expr.TheVariants as tree
use Rattle.vlog_tree.specs.Spelling.Exprs.{named}
use Rattle.vlog_tree.specs.Spelling.Parts.{terminal}
use Rattle.vlog_parse.specs.Chains.{binary_of, chain, one_binary, one_unary, operation, sees_binary, sees_unary, unary_of, unary_operators, wrap}
use Rattle.vlog_parse.specs.Exprs.{braces, choice, conditional, inner_brace, join, level, literal, parentheses, primary, reference, repeat, unary}
use Rattle.vlog_parse.specs.Looks.{is_decimal, sees_decimal_before, sees_name}
use Rattle.vlog_parse.specs.Reads.{◌>>=◌, ◌>>◌, Outcome, Parser, and_then, expect, loop, one_more, one_more_after_comma, pure, refuse, sees, separated}
use Rattle.vlog_parse.specs.Selects.{select_of}
use Rattle.vlog_numbers.specs.Terminals.{decimal_of, is_size}
use Rattle.vlog_parse.proofs.LocalLoops.{Takes, expect_takes, first_takes, loop_local, many_local, one_more_local, separated_local, take_takes}
use Rattle.vlog_parse.proofs.LocalNumbers.{decimal_local, name_local, no_decimal, number_local, select_local, starts_decimal}
use Rattle.vlog_parse.proofs.Locals.{Keeps, Local, ending, expect_local, expected_local, here_local, if_local, pure_local, refuse_local, same_found, same_left, take_local, then_local}

-- what is left of these tokens is told, and no more of it is known
pub only_keeps : {A : Type 0} {rule : Parser A} → Keeps rule → Local 0 0 rule rule
only_keeps keeps = record { keeps = keeps; moves = λ front tok rest more found fits fits2 e. absurd (omega arith) }

-- ---- names, numbers and operators

one_unary_takes : Takes one_unary
unfolding one_unary
one_unary_takes = take_takes unary_of

module _ {n m : ℕ} where
  literal_local : Local n m literal literal
  unfolding literal
  literal_local = then_local here_local (λ at. then_local number_local (λ bits. pure_local (tree.Number at bits)))

  reference_local : Local n m reference reference
  unfolding reference
  reference_local = then_local here_local (λ at. then_local name_local (λ text. then_local select_local (λ taken. pure_local (named (select_of taken) at text))))

  one_unary_local : Local n m one_unary one_unary
  unfolding one_unary
  one_unary_local = take_local unary_of

  unary_operators_local : Local n m unary_operators unary_operators
  unfolding unary_operators
  unary_operators_local = many_local one_unary_local one_unary_takes sees_unary (λ tok rest more. refl) []

  brace_local : (times : ℕ) → Local n m (inner_brace times) (inner_brace times)
  unfolding inner_brace
  brace_local times = by (is_size times)
    where
      by : (b : Bool) → Local n m (if b then expect (codes "{") else refuse) (if b then expect (codes "{") else refuse)
      by true = expect_local (codes "{")
      by false = refuse_local

  module _ (k : ℕ) {operand operand2 : Parser Expr} (local : Local n m operand operand2) where
    operation_local : (left : Expr) → Local n m (operation k operand left) (operation k operand2 left)
    unfolding operation one_binary
    operation_local left = then_local (take_local (binary_of k)) (λ op. then_local local (λ right. pure_local _))

    operation_takes : (left : Expr) → Takes (operation k operand left)
    unfolding operation one_binary
    operation_takes left = first_takes (take_takes (binary_of k)) (λ op. (let after : Local n m _ _ = then_local local (λ right. pure_local _) in after.keeps))

    chain_local : Local n m (chain k operand) (chain k operand2)
    unfolding chain
    chain_local = then_local local (λ first. loop_local (sees_binary k) (λ tok rest more. refl) operation_local operation_takes first)

-- ---- a decimal comes first

-- What is left is no longer than this.
abbrev pub Past : {A : Type 0} → Outcome A → ℕ → Type 0
Past {A} outcome size = (found : Option A) (left : List Tok) → outcome ≡ ending found left → length left ≤ size

pub past_then : {A B : Type 0} (outcome : Outcome A) (f : A → Parser B) (size : ℕ) → ((a : A) → Keeps (f a)) → Past outcome size → Past (and_then outcome f) size
past_then (Ok (a, mid)) f size keeps past found left e =
    let (front, same) = keeps a mid found left e in
    let whole : length mid ≡ length front + length left = ap (length {A = Tok}) same ∙ length-append front left in
    let short = past (Some a) mid refl in
    omega arith
past_then (Err mid) f size keeps past found left e =
    let same = ap (length {A = Tok}) (same_left None found mid left e) in
    let short = past None mid refl in
    omega arith

pub past_as : {A : Type 0} (one other : Outcome A) (size : ℕ) → one ≡ other → Past other size → Past one size
past_as one other size same past found left e = past found left (sym same ∙ e)

-- Where a decimal comes first, it is passed if it is one by itself, and else nothing is.
pub record Firsts (n : ℕ) (inner : Parser Expr) : Type 0 where
  pub past : 0 < n → (tok : Tok) (rest : List Tok) (value : ℕ) → tok.kind ≡ Decimal → decimal_of tok ≡ Some value → Past (inner (tok ∷ rest)) (length rest)
  pub stuck : 0 < n → (tok : Tok) (rest : List Tok) → tok.kind ≡ Decimal → decimal_of tok ≡ None → inner (tok ∷ rest) ≡ Err (tok ∷ rest)

is_decimal_kind : (kind : TokenKind) → is_decimal kind ≡ true → kind ≡ Decimal
is_decimal_kind Decimal h = refl
is_decimal_kind Word h = cc
is_decimal_kind Escaped h = cc
is_decimal_kind System h = cc
is_decimal_kind Based h = cc
is_decimal_kind Text h = cc
is_decimal_kind Mark h = cc

none_before : (tok : Tok) (rest : List Tok) → is_decimal tok.kind ≡ false → sees_decimal_before (codes "{") (tok ∷ rest) ≡ false
none_before tok [] h = refl
none_before tok (second ∷ rest) h = ap (λ (b : Bool). b && bytes_eq (terminal second) (codes "{")) h

same_before : (first : Tok) (front : List Tok) (tok : Tok) (rest more : List Tok) → sees_decimal_before (codes "{") (first ∷ (front ++ tok ∷ more)) ≡ sees_decimal_before (codes "{") (first ∷ (front ++ tok ∷ rest))
same_before first [] tok rest more = refl
same_before first (second ∷ front) tok rest more = refl

module _ {n m : ℕ} {inner inner2 : Parser Expr} (local : Local n m inner inner2) where
  parentheses_local : Local (suc n) (suc m) (parentheses inner) (parentheses inner2)
  unfolding parentheses
  parentheses_local = expected_local (codes "(") (λ _. then_local local (λ e. then_local (expect_local (codes ")")) (λ _. pure_local _)))

  join_local : Local n m (join inner) (join inner2)
  unfolding join
  join_local = then_local (separated_local local) (λ parts. then_local (expect_local (codes "}")) (λ _. pure_local _))

  -- what follows the count of a replication
  abbrev AfterCount : Parser Expr → ℕ → Parser Expr
  AfterCount of times = inner_brace times >> (separated of >>= (λ parts. expect (codes "}") >> (expect (codes "}") >> pure (tree.Repeat times parts))))

  after_count : (times : ℕ) → Local n m (AfterCount inner times) (AfterCount inner2 times)
  after_count times = then_local (brace_local times) (λ _. then_local (separated_local local) (λ parts. then_local (expect_local (codes "}")) (λ _. then_local (expect_local (codes "}")) (λ _. pure_local (tree.Repeat times parts)))))

  repeat_local : Local n m (repeat inner) (repeat inner2)
  unfolding repeat
  repeat_local = then_local decimal_local after_count

  comma_takes : (found : List Expr) → Takes (one_more_after_comma inner found)
  unfolding one_more_after_comma
  comma_takes found = first_takes (expect_takes (codes ",")) (λ _. (one_more_local local found).keeps)

  comma_local : (found : List Expr) → Local n m (one_more_after_comma inner found) (one_more_after_comma inner2 found)
  unfolding one_more_after_comma
  comma_local found = then_local (expect_local (codes ",")) (λ _. one_more_local local found)

  comma_loop : (first : List Expr) → Local n m (loop (sees (codes ",")) (one_more_after_comma inner) first) (loop (sees (codes ",")) (one_more_after_comma inner2) first)
  comma_loop first = loop_local (sees (codes ",")) (λ tok rest more. refl) comma_local comma_takes first

  -- what follows the opening brace
  abbrev Body : Parser Expr → Parser Expr
  Body of = λ ts. if sees_decimal_before (codes "{") ts then repeat of ts else join of ts

  body_keeps : Keeps (Body inner)
  body_keeps ts found left e = by (sees_decimal_before (codes "{") ts) e
    where
      by : (b : Bool) → (if b then repeat inner ts else join inner ts) ≡ ending found left → (front : List Tok) × (ts ≡ front ++ left)
      by true e = repeat_local.keeps ts found left e
      by false e = join_local.keeps ts found left e

  -- a body whose first token does not fit
  abbrev Same : Bool → Bool → Tok → List Tok → List Tok → Option Expr → Type 0
  Same b c tok rest more found = (if b then repeat inner (tok ∷ rest) else join inner (tok ∷ rest)) ≡ ending found (tok ∷ rest) → (if c then repeat inner2 (tok ∷ more) else join inner2 (tok ∷ more)) ≡ ending found (tok ∷ more)

  join_past : (tok : Tok) (rest : List Tok) → Past (inner (tok ∷ rest)) (length rest) → Past (join inner (tok ∷ rest)) (length rest)
  unfolding join separated one_more
  join_past tok rest past =
      past_then (separated inner (tok ∷ rest)) _ (length rest) (λ parts. (let ends : Local n m _ _ = then_local (expect_local (codes "}")) (λ _. pure_local (tree.Join parts)) in ends.keeps))
      (past_then (one_more inner [] (tok ∷ rest)) _ (length rest) (λ first. (comma_loop first).keeps)
      (past_then (inner (tok ∷ rest)) _ (length rest) (λ a. (let stays : Local n m (pure ([] ++ a ∷ [])) (pure ([] ++ a ∷ [])) = pure_local ([] ++ a ∷ []) in stays.keeps)) past))

  join_stuck : (tok : Tok) (more : List Tok) → inner2 (tok ∷ more) ≡ Err (tok ∷ more) → join inner2 (tok ∷ more) ≡ Err (tok ∷ more)
  unfolding join separated one_more
  join_stuck tok more h = rw h refl

  join_stuck_one : (tok : Tok) (rest : List Tok) → inner (tok ∷ rest) ≡ Err (tok ∷ rest) → join inner (tok ∷ rest) ≡ Err (tok ∷ rest)
  unfolding join separated one_more
  join_stuck_one tok rest h = rw h refl

  repeat_stuck : (tok : Tok) (more : List Tok) → decimal_of tok ≡ None → repeat inner2 (tok ∷ more) ≡ Err (tok ∷ more)
  unfolding repeat
  repeat_stuck tok more h = no_decimal _ tok more h

  module _ (firsts : Firsts n inner) (firsts2 : Firsts m inner2) where
    -- Where the first token is a decimal, both rules of the body are stuck at it or none is.
    decimal_moves : (b c : Bool) (tok : Tok) (rest more : List Tok) (found : Option Expr) → tok.kind ≡ Decimal → 0 < n → 0 < m → Same b c tok rest more found
    unfolding repeat
    decimal_moves b c tok rest more found kind some some2 e = by b c e
      where
        ends : (c : Bool) → decimal_of tok ≡ None → found ≡ None → (if c then repeat inner2 (tok ∷ more) else join inner2 (tok ∷ more)) ≡ ending found (tok ∷ more)
        ends true h none = repeat_stuck tok more h ∙ ap (λ o. ending o (tok ∷ more)) (sym none)
        ends false h none = join_stuck tok more (firsts2.stuck some2 tok more kind h) ∙ ap (λ o. ending o (tok ∷ more)) (sym none)

        joined : (o : Option ℕ) → decimal_of tok ≡ o → (c : Bool) → join inner (tok ∷ rest) ≡ ending found (tok ∷ rest) → (if c then repeat inner2 (tok ∷ more) else join inner2 (tok ∷ more)) ≡ ending found (tok ∷ more)
        joined (Some value) h c e = let short = join_past tok rest (firsts.past some tok rest value kind h) found (tok ∷ rest) e in absurd (omega arith)
        joined None h c e = ends c h (sym (same_found None found (tok ∷ rest) (tok ∷ rest) (sym (join_stuck_one tok rest (firsts.stuck some tok rest kind h)) ∙ e)))

        by : (b c : Bool) → Same b c tok rest more found
        by true c e = let (h, none) = starts_decimal _ (λ times. (after_count times).keeps) tok rest found e in ends c h none
        by false c e = joined (decimal_of tok) refl c e

    first_moves : (tok : Tok) (rest more : List Tok) (found : Option Expr) → length rest < n → length more < m → Body inner (tok ∷ rest) ≡ ending found (tok ∷ rest) → Body inner2 (tok ∷ more) ≡ ending found (tok ∷ more)
    first_moves tok rest more found fits fits2 e = by (is_decimal tok.kind) refl
      where
        by : (b : Bool) → is_decimal tok.kind ≡ b → Body inner2 (tok ∷ more) ≡ ending found (tok ∷ more)
        by true h = decimal_moves (sees_decimal_before (codes "{") (tok ∷ rest)) (sees_decimal_before (codes "{") (tok ∷ more)) tok rest more found (is_decimal_kind tok.kind h) (omega arith) (omega arith) e
        by false h =
            let plain : join inner (tok ∷ rest) ≡ ending found (tok ∷ rest) = ap (λ (b : Bool). if b then repeat inner (tok ∷ rest) else join inner (tok ∷ rest)) (sym (none_before tok rest h)) ∙ e in
            ap (λ (b : Bool). if b then repeat inner2 (tok ∷ more) else join inner2 (tok ∷ more)) (none_before tok more h) ∙ join_local.moves [] tok rest more found (omega arith) (omega arith) plain

    later_moves : (b : Bool) (front : List Tok) (tok : Tok) (rest more : List Tok) (found : Option Expr) → length front + length rest < n → length front + length more < m
        → (if b then repeat inner (front ++ tok ∷ rest) else join inner (front ++ tok ∷ rest)) ≡ ending found (tok ∷ rest) → (if b then repeat inner2 (front ++ tok ∷ more) else join inner2 (front ++ tok ∷ more)) ≡ ending found (tok ∷ more)
    later_moves true front tok rest more found fits fits2 e = repeat_local.moves front tok rest more found fits fits2 e
    later_moves false front tok rest more found fits fits2 e = join_local.moves front tok rest more found fits fits2 e

    body_moves : (front : List Tok) (tok : Tok) (rest more : List Tok) (found : Option Expr) → length front + length rest < n → length front + length more < m
        → Body inner (front ++ tok ∷ rest) ≡ ending found (tok ∷ rest) → Body inner2 (front ++ tok ∷ more) ≡ ending found (tok ∷ more)
    body_moves [] tok rest more found fits fits2 e = first_moves tok rest more found (omega arith) (omega arith) e
    body_moves (first ∷ front) tok rest more found fits fits2 e =
        ap (λ (b : Bool). if b then repeat inner2 (first ∷ (front ++ tok ∷ more)) else join inner2 (first ∷ (front ++ tok ∷ more))) (same_before first front tok rest more)
        ∙ later_moves (sees_decimal_before (codes "{") (first ∷ (front ++ tok ∷ rest))) (first ∷ front) tok rest more found fits fits2 e

    body_local : Local n m (Body inner) (Body inner2)
    body_local = record { keeps = body_keeps; moves = body_moves }

    braces_local : Local (suc n) (suc m) (braces inner) (braces inner2)
    unfolding braces
    braces_local = expected_local (codes "{") (λ _. body_local)

    primary_local : Local (suc n) (suc m) (primary inner) (primary inner2)
    unfolding primary
    primary_local = if_local (sees (codes "(")) (λ tok rest more. refl) parentheses_local (if_local (sees (codes "{")) (λ tok rest more. refl) braces_local (if_local sees_name (λ tok rest more. refl) reference_local literal_local))

    unary_local : Local (suc n) (suc m) (unary inner) (unary inner2)
    unfolding unary
    unary_local = then_local unary_operators_local (λ ops. then_local primary_local (λ e. pure_local (wrap ops e)))

    pub level_local : (k : ℕ) → Local (suc n) (suc m) (level inner k) (level inner2 k)
    level_local zero = unary_local
    level_local (suc below) = chain_local (suc below) (level_local below)

    pub level_loop : (below : ℕ) (first : Expr) → Local (suc n) (suc m) (loop (sees_binary (suc below)) (operation (suc below) (level inner below)) first) (loop (sees_binary (suc below)) (operation (suc below) (level inner2 below)) first)
    level_loop below first = loop_local (sees_binary (suc below)) (λ tok rest more. refl) (operation_local (suc below) (level_local below)) (operation_takes (suc below) (level_local below)) first

    choice_local : (cond : Expr) → Local (suc n) (suc m) (choice inner cond) (choice inner2 cond)
    unfolding choice
    choice_local cond = expected_local (codes "?") (λ _. then_local local (λ first. then_local (expect_local (codes ":")) (λ _. then_local local (λ second. pure_local (tree.Cond cond first second)))))

    pub ended_local : (cond : Expr) → Local (suc n) (suc m) (λ ts. if sees (codes "?") ts then choice inner cond ts else pure cond ts) (λ ts. if sees (codes "?") ts then choice inner2 cond ts else pure cond ts)
    ended_local cond = if_local (sees (codes "?")) (λ tok rest more. refl) (choice_local cond) (pure_local cond)

    pub conditional_local : Local (suc n) (suc m) (conditional inner) (conditional inner2)
    unfolding conditional
    conditional_local = then_local (level_local 6) ended_local

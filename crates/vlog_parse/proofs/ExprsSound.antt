-- What the rules of expressions read is spelled by the tokens that they take.
use Rattle.std.proofs.Common.{◌≡◌, ◌==◌, ℕ, zero, suc, Bool, true, false, List, [], ◌∷◌, ◌++◌, length, codes, Option, Some, None, Ok, if◌then◌else◌, refl, sym, ap, ◌∙◌, subst, append_assoc, append-nil}
use Rattle.std.proofs.lemmas.Bool.{eqb-true}
use Rattle.vlog_tokens.specs.Toks.{Tok}
use Rattle.vlog_tree.specs.declared.expr.BinOp.{BinOp}
use Rattle.vlog_tree.specs.declared.expr.Expr.{Expr}
use Rattle.vlog_tree.specs.declared.expr.Expr.TheVariants as tree
use Rattle.vlog_tree.specs.declared.expr.UnOp.{UnOp}
use Rattle.vlog_tree.specs.Spelling.Exprs.{Binary, Conditional, IsExpr, Primary, SpellsExpr, Unary, named}
use Rattle.vlog_tree.specs.Spelling.Numbers.{IsNumber}
use Rattle.vlog_tree.specs.Spelling.Operators.{binary_operator, unary_operator}
use Rattle.vlog_tree.specs.Spelling.Parts.{Is, Production, place_of, terminal}
use Rattle.vlog_parse.specs.Chains.{binary_of, chain, of_level, one_binary, one_unary, operation, sees_binary, sees_unary, unary_of, unary_operators, wrap}
use Rattle.vlog_parse.specs.Exprs.{braces, choice, conditional, expr, inner_brace, join, level, literal, parentheses, primary, reference, repeat, unary}
use Rattle.vlog_parse.specs.Looks.{sees_decimal_before, sees_name}
use Rattle.vlog_parse.specs.Numbers.{number}
use Rattle.vlog_parse.specs.Reads.{Parser, and_then, expect, loop, loop_from, one_more, refuse, sees, separated}
use Rattle.vlog_parse.specs.Selects.{select, select_of}
use Rattle.vlog_numbers.specs.Terminals.{is_size}
use Rattle.vlog_parse.specs.Terminals.{decimal, name}
use Rattle.vlog_parse.proofs.Lists.{separated_sound}
use Rattle.vlog_parse.proofs.Numbers.{number_sound}
use Rattle.vlog_parse.proofs.Rules.{◌>>=◌, Sound, Took, found_is, left_is, mark_took, take_took, then_took}
use Rattle.vlog_parse.proofs.Selects.{select_sound}
use Rattle.vlog_parse.proofs.Terminals.{count_is, decimal_took, name_took}

-- ---- lists of tokens in a row

-- tokens between two
enclosed : (opening closing : Tok) (ts ts1 ts2 ts3 front rest : List Tok) → ts ≡ opening ∷ ts1 → ts1 ≡ front ++ ts2 → ts2 ≡ closing ∷ ts3 → rest ≡ ts3 → ts ≡ (opening ∷ (front ++ closing ∷ [])) ++ rest
enclosed opening closing ts ts1 ts2 ts3 front rest e1 e2 e3 same =
    e1 ∙ ap (λ (us : List Tok). opening ∷ us) (e2 ∙ ap (λ (us : List Tok). front ++ us) (e3 ∙ ap (λ (us : List Tok). closing ∷ us) (sym same)) ∙ sym (append_assoc front (closing ∷ []) rest))

-- tokens with one between
joined : (middle : Tok) (ts ts1 ts2 front back rest : List Tok) → ts ≡ front ++ ts1 → ts1 ≡ middle ∷ ts2 → ts2 ≡ back ++ rest → ts ≡ (front ++ middle ∷ back) ++ rest
joined middle ts ts1 ts2 front back rest e1 e2 e3 =
    e1 ∙ ap (λ (us : List Tok). front ++ us) (e2 ∙ ap (λ (us : List Tok). middle ∷ us) e3) ∙ sym (append_assoc front (middle ∷ back) rest)

-- ---- numbers and names

pub number_place : {front : List Tok} {bits : List Bool} → IsNumber front bits → (rest : List Tok) → place_of (front ++ rest) ≡ place_of front
number_place (IsNumber.decimal digits value h) rest = refl
number_place (IsNumber.based digits bits h fits) rest = refl
number_place (IsNumber.sized size digits width bits h based) rest = refl

-- ---- replication counts

-- A count that may be one, and the brace behind it.
brace_took : (times : ℕ) (f : Tok → Parser Expr) (ts : List Tok) (e : Expr) (rest : List Tok) → and_then (inner_brace times ts) f ≡ Ok (e, rest) → (is_size times ≡ true) × (and_then (expect (codes "{") ts) f ≡ Ok (e, rest))
unfolding inner_brace
brace_took times f ts e rest read = by (is_size times) refl read
  where
    by : (b : Bool) → is_size times ≡ b → and_then ((if b then expect (codes "{") else refuse) ts) f ≡ Ok (e, rest) → (is_size times ≡ true) × (and_then (expect (codes "{") ts) f ≡ Ok (e, rest))
    by true h read = (h, read)
    by false h read = cc

module _ (inner : Parser Expr) (Inner : Production Expr) where
  literal_sound : Sound literal (Primary Inner)
  unfolding literal
  literal_sound ts e rest read = do
    (bits, left, was, m) ← then_took (number ts) _ e rest read
    (front, e1, h) ← number_sound ts bits left was
    (
      front,
      e1 ∙ ap (λ (us : List Tok). front ++ us) (sym (left_is m)),
      subst (λ (x : Expr). Primary Inner front x) (sym (found_is m ∙ ap (λ at. tree.Number at bits) (ap place_of e1 ∙ number_place h left))) (Primary.number front bits h),
    )

  reference_sound : Sound reference (Primary Inner)
  unfolding reference
  reference_sound ts e rest read = do
    (text, ts1, was, m1) ← then_took (name ts) _ e rest read
    (word, e1, h1) ← name_took ts text ts1 was
    (taken, ts2, was2, m2) ← then_took (select ts1) _ e rest m1
    (front, e2, h2) ← select_sound ts1 taken ts2 was2
    (
      word ∷ front,
      e1 ∙ ap (λ (us : List Tok). word ∷ us) (e2 ∙ ap (λ (us : List Tok). front ++ us) (sym (left_is m2))),
      subst (λ (x : Expr). Primary Inner (word ∷ front) x) (sym (found_is m2 ∙ ap (λ at. named (select_of taken) at text) (ap place_of e1))) (Primary.name word front text (select_of taken) h1 h2),
    )

  -- ---- what stands in parentheses and braces

  parentheses_sound : Sound inner Inner → Sound (parentheses inner) (Primary Inner)
  unfolding parentheses
  parentheses_sound sound ts e rest read = do
    (opening, ts1, e1, h1, m1) ← mark_took (codes "(") _ ts e rest read
    (found, ts2, was, m2) ← then_took (inner ts1) _ e rest m1
    (front, e2, s) ← sound ts1 found ts2 was
    (closing, ts3, e3, h3, m3) ← mark_took (codes ")") _ ts2 e rest m2
    (
      opening ∷ (front ++ closing ∷ []),
      enclosed opening closing ts ts1 ts2 ts3 front rest e1 e2 e3 (left_is m3),
      subst (λ (x : Expr). Primary Inner (opening ∷ (front ++ closing ∷ [])) x) (sym (found_is m3)) (Primary.parentheses opening closing front found h1 s h3),
    )

  join_took : Sound inner Inner → (opening : Tok) (ts : List Tok) (e : Expr) (rest : List Tok) → Is (codes "{") opening → join inner ts ≡ Ok (e, rest) → Took (Primary Inner) (opening ∷ ts) e rest
  unfolding join
  join_took sound opening ts e rest h1 read = do
    (parts, ts1, was, m1) ← then_took (separated inner ts) _ e rest read
    (front, e1, s) ← separated_sound inner Inner sound ts parts ts1 was
    (closing, ts2, e2, h2, m2) ← mark_took (codes "}") _ ts1 e rest m1
    (
      opening ∷ (front ++ closing ∷ []),
      enclosed opening closing (opening ∷ ts) ts ts1 ts2 front rest refl e1 e2 (left_is m2),
      subst (λ (x : Expr). Primary Inner (opening ∷ (front ++ closing ∷ [])) x) (sym (found_is m2)) (Primary.join opening closing front parts h1 s h2),
    )

  repeat_took : Sound inner Inner → (opening : Tok) (ts : List Tok) (e : Expr) (rest : List Tok) → Is (codes "{") opening → repeat inner ts ≡ Ok (e, rest) → Took (Primary Inner) (opening ∷ ts) e rest
  unfolding repeat
  repeat_took sound opening ts e rest h1 read = do
    (times, ts1, was, m1) ← then_took (decimal ts) _ e rest read
    (digits, e1, value) ← decimal_took ts times ts1 was
    (fits, brace) ← brace_took times _ ts1 e rest m1
    (second, ts2, e2, h3, m2) ← mark_took (codes "{") _ ts1 e rest brace
    (parts, ts3, was3, m3) ← then_took (separated inner ts2) _ e rest m2
    (front, e3, s) ← separated_sound inner Inner sound ts2 parts ts3 was3
    (closing, ts4, e4, h4, m4) ← mark_took (codes "}") _ ts3 e rest m3
    (last, ts5, e5, h5, m5) ← mark_took (codes "}") _ ts4 e rest m4
    (
      opening ∷ digits ∷ second ∷ (front ++ closing ∷ last ∷ []),
      ap (λ (us : List Tok). opening ∷ us) (e1 ∙ ap (λ (us : List Tok). digits ∷ us) (e2 ∙ ap (λ (us : List Tok). second ∷ us) (e3
          ∙ ap (λ (us : List Tok). front ++ us) (e4 ∙ ap (λ (us : List Tok). closing ∷ us) (e5 ∙ ap (λ (us : List Tok). last ∷ us) (sym (left_is m5))))
          ∙ sym (append_assoc front (closing ∷ last ∷ []) rest)))),
      subst (λ (x : Expr). Primary Inner (opening ∷ digits ∷ second ∷ (front ++ closing ∷ last ∷ [])) x) (sym (found_is m5)) (Primary.repeat opening digits second closing last front times parts h1 (count_is digits times value fits) h3 s h4 h5),
    )

  braced : Sound inner Inner → (opening : Tok) (ts : List Tok) (e : Expr) (rest : List Tok) → Is (codes "{") opening
      → (if sees_decimal_before (codes "{") ts then repeat inner ts else join inner ts) ≡ Ok (e, rest) → Took (Primary Inner) (opening ∷ ts) e rest
  braced sound opening ts e rest h1 read = by (sees_decimal_before (codes "{") ts) refl
    where
      by : (b : Bool) → sees_decimal_before (codes "{") ts ≡ b → Took (Primary Inner) (opening ∷ ts) e rest
      by true h = repeat_took sound opening ts e rest h1 (rw h at read)
      by false h = join_took sound opening ts e rest h1 (rw h at read)

  braces_sound : Sound inner Inner → Sound (braces inner) (Primary Inner)
  unfolding braces
  braces_sound sound ts e rest read = do
    (opening, ts1, e1, h1, m1) ← mark_took (codes "{") _ ts e rest read
    subst (λ (us : List Tok). Took (Primary Inner) us e rest) (sym e1) (braced sound opening ts1 e rest h1 m1)

  primary_sound : Sound inner Inner → Sound (primary inner) (Primary Inner)
  unfolding primary
  primary_sound sound ts e rest read = by (sees (codes "(") ts) refl (sees (codes "{") ts) refl (sees_name ts) refl
    where
      by : (a : Bool) → sees (codes "(") ts ≡ a → (b : Bool) → sees (codes "{") ts ≡ b → (c : Bool) → sees_name ts ≡ c → Took (Primary Inner) ts e rest
      by true h b h2 c h3 = parentheses_sound sound ts e rest (rw h at read)
      by false h true h2 c h3 = braces_sound sound ts e rest (rw (h, h2) at read)
      by false h false h2 true h3 = reference_sound ts e rest (rw (h, h2, h3) at read)
      by false h false h2 false h3 = literal_sound ts e rest (rw (h, h2, h3) at read)

  -- ---- unary operators

  one_unary_took : (found : List UnOp) (ts : List Tok) (more : List UnOp) (rest : List Tok) → one_more one_unary found ts ≡ Ok (more, rest)
      → (tok : Tok) × (op : UnOp) × (ts ≡ tok ∷ rest) × (unary_operator (terminal tok) ≡ Some op) × (more ≡ found ++ op ∷ [])
  unfolding one_more one_unary
  one_unary_took found ts more rest e = do
    (op, left, was, m) ← then_took (one_unary ts) _ more rest e
    (tok, e1, h) ← take_took unary_of ts op left was
    (tok, op, e1 ∙ ap (λ (us : List Tok). tok ∷ us) (sym (left_is m)), h, found_is m)

  -- the tokens spell these operators before any operand
  abbrev Before : List Tok → List UnOp → Type 0
  Before us ops = (front : List Tok) (e : Expr) → Unary Inner front e → Unary Inner (us ++ front) (wrap ops e)

  abbrev TookOperators : List UnOp → List Tok → List UnOp → List Tok → Type 0
  TookOperators found ts ops rest = (us : List Tok) × (more : List UnOp) × (ts ≡ us ++ rest) × (ops ≡ found ++ more) × Before us more

  operators_step : (turns : ℕ) → ((found : List UnOp) (ts : List Tok) (ops : List UnOp) (rest : List Tok) → loop_from sees_unary (one_more one_unary) turns found ts ≡ Ok (ops, rest) → TookOperators found ts ops rest)
      → (found : List UnOp) (ts : List Tok) (ops : List UnOp) (rest : List Tok) → loop_from sees_unary (one_more one_unary) (suc turns) found ts ≡ Ok (ops, rest) → TookOperators found ts ops rest
  unfolding loop_from
  operators_step turns took found ts ops rest e = by (sees_unary ts) refl
    where
      by : (b : Bool) → sees_unary ts ≡ b → TookOperators found ts ops rest
      by false h = (let ends = rw h at e in ([], [], sym (left_is ends), found_is ends ∙ sym (append-nil found), λ front x s. s))
      by true h = do
        (state, left, was, next) ← then_took (one_more one_unary found ts) (loop_from sees_unary (one_more one_unary) turns) ops rest (rw h at e)
        (tok, op, e1, is, same) ← one_unary_took found ts state left was
        (us, more, e2, all, before) ← took (found ++ op ∷ []) left ops rest (subst (λ (xs : List UnOp). loop_from sees_unary (one_more one_unary) turns xs left ≡ Ok (ops, rest)) same next)
        (
          tok ∷ us,
          op ∷ more,
          e1 ∙ ap (λ (ys : List Tok). tok ∷ ys) e2,
          all ∙ append_assoc found (op ∷ []) more,
          λ front x s. Unary.operator tok (us ++ front) op (wrap more x) is (before front x s),
        )

  operators_took : (turns : ℕ) (found : List UnOp) (ts : List Tok) (ops : List UnOp) (rest : List Tok) → loop_from sees_unary (one_more one_unary) turns found ts ≡ Ok (ops, rest) → TookOperators found ts ops rest
  unfolding loop_from
  operators_took zero found ts ops rest e = cc
  operators_took (suc turns) found ts ops rest e = operators_step turns (operators_took turns) found ts ops rest e

  unary_operators_took : (ts : List Tok) (ops : List UnOp) (rest : List Tok) → unary_operators ts ≡ Ok (ops, rest) → TookOperators [] ts ops rest
  unfolding unary_operators loop
  unary_operators_took ts ops rest e = operators_took (suc (length ts)) [] ts ops rest e

  unary_sound : Sound inner Inner → Sound (unary inner) (Unary Inner)
  unfolding unary
  unary_sound sound ts e rest read = do
    (ops, ts1, was, m1) ← then_took (unary_operators ts) _ e rest read
    (us, more, e1, all, before) ← unary_operators_took ts ops ts1 was
    (x, ts2, was2, m2) ← then_took (primary inner ts1) _ e rest m1
    (front, e2, s) ← primary_sound sound ts1 x ts2 was2
    (
      us ++ front,
      e1 ∙ ap (λ (ys : List Tok). us ++ ys) (e2 ∙ ap (λ (ys : List Tok). front ++ ys) (sym (left_is m2))) ∙ sym (append_assoc us front rest),
      subst (λ (y : Expr). Unary Inner (us ++ front) y) (sym (found_is m2 ∙ ap (λ (xs : List UnOp). wrap xs x) all)) (before front x (Unary.primary front x s)),
    )

  -- ---- binary operators

  of_level_is : (n : ℕ) (found : Option (ℕ × BinOp)) (op : BinOp) → of_level n found ≡ Some op → found ≡ Some (n, op)
  of_level_is n None op e = cc
  of_level_is n (Some (found, given)) op e = by (found == n) refl
    where
      by : (b : Bool) → (found == n) ≡ b → ◌≡◌ {A = Option (ℕ × BinOp)} (Some (found, given)) (Some (n, op))
      by true h = (let same = eqb-true found n h in let is : ◌≡◌ {A = Option BinOp} (Some given) (Some op) = rw h at e in let op_is : given ≡ op = cc in rw (same, op_is) refl)
      by false h = (let no : ◌≡◌ {A = Option BinOp} None (Some op) = rw h at e in cc)

  module _ (below : ℕ) (operand : Parser Expr) where
    abbrev Step : Expr → Parser Expr
    Step = operation (suc below) operand

    -- an operator of the level and an operand after what spells the left one
    operation_took : Sound operand (Binary Inner below) → (left : Expr) (front ts : List Tok) (e : Expr) (rest : List Tok) → Binary Inner (suc below) front left → Step left ts ≡ Ok (e, rest)
        → (us : List Tok) × (ts ≡ us ++ rest) × Binary Inner (suc below) (front ++ us) e
    unfolding operation one_binary
    operation_took sound left front ts e rest s read = do
      (op, ts1, was, m1) ← then_took (one_binary (suc below) ts) _ e rest read
      (tok, e1, h) ← take_took (binary_of (suc below)) ts op ts1 was
      (right, ts2, was2, m2) ← then_took (operand ts1) _ e rest m1
      (back, e2, s2) ← sound ts1 right ts2 was2
      (
        tok ∷ back,
        e1 ∙ ap (λ (us : List Tok). tok ∷ us) (e2 ∙ ap (λ (us : List Tok). back ++ us) (sym (left_is m2))),
        subst (λ (x : Expr). Binary Inner (suc below) (front ++ tok ∷ back) x) (sym (found_is m2)) (Binary.operator below front back tok op left right s (of_level_is (suc below) (binary_operator (terminal tok)) op h) s2),
      )

    abbrev Chained : ℕ → Type 0
    Chained turns = (left : Expr) (front ts : List Tok) (e : Expr) (rest : List Tok) → Binary Inner (suc below) front left → loop_from (sees_binary (suc below)) Step turns left ts ≡ Ok (e, rest)
        → (us : List Tok) × (ts ≡ us ++ rest) × Binary Inner (suc below) (front ++ us) e

    chained_step : (turns : ℕ) → Sound operand (Binary Inner below) → Chained turns → Chained (suc turns)
    unfolding loop_from
    chained_step turns sound chained left front ts e rest s read = by (sees_binary (suc below) ts) refl
      where
        by : (b : Bool) → sees_binary (suc below) ts ≡ b → (us : List Tok) × (ts ≡ us ++ rest) × Binary Inner (suc below) (front ++ us) e
        by false h = (
            let ends = rw h at read in
            ([], sym (left_is ends), subst (λ (us : List Tok). Binary Inner (suc below) us e) (sym (append-nil front)) (subst (λ (x : Expr). Binary Inner (suc below) front x) (sym (found_is ends)) s)))
        by true h = do
          (whole, ts1, was, next) ← then_took (Step left ts) (loop_from (sees_binary (suc below)) Step turns) e rest (rw h at read)
          (us, e1, s1) ← operation_took sound left front ts whole ts1 s was
          (vs, e2, s2) ← chained whole (front ++ us) ts1 e rest s1 next
          (
            us ++ vs,
            e1 ∙ ap (λ (ys : List Tok). us ++ ys) e2 ∙ sym (append_assoc us vs rest),
            subst (λ (ys : List Tok). Binary Inner (suc below) ys e) (append_assoc front us vs) s2,
          )

    chained_all : Sound operand (Binary Inner below) → (turns : ℕ) → Chained turns
    unfolding loop_from
    chained_all sound zero left front ts e rest s read = cc
    chained_all sound (suc turns) left front ts e rest s read = chained_step turns sound (chained_all sound turns) left front ts e rest s read

    chain_sound : Sound operand (Binary Inner below) → Sound (chain (suc below) operand) (Binary Inner (suc below))
    unfolding chain loop
    chain_sound sound ts e rest read = do
      (first, ts1, was, next) ← then_took (operand ts) _ e rest read
      (front, e1, s) ← sound ts first ts1 was
      (us, e2, s2) ← chained_all sound (suc (length ts1)) first front ts1 e rest (Binary.tighter below front first s) next
      (front ++ us, e1 ∙ ap (λ (ys : List Tok). front ++ ys) e2 ∙ sym (append_assoc front us rest), s2)

  level_sound : Sound inner Inner → (n : ℕ) → Sound (level inner n) (Binary Inner n)
  level_sound sound zero ts e rest read = do
    (front, e1, s) ← unary_sound sound ts e rest read
    (front, e1, Binary.unary front e s)
  level_sound sound (suc below) ts e rest read = chain_sound below (level inner below) (level_sound sound below) ts e rest read

  -- ---- conditionals

  choice_took : Sound inner Inner → (cond : Expr) (front ts : List Tok) (e : Expr) (rest : List Tok) → Binary Inner 6 front cond → choice inner cond ts ≡ Ok (e, rest)
      → (us : List Tok) × (ts ≡ us ++ rest) × Conditional Inner (front ++ us) e
  unfolding choice
  choice_took sound cond front ts e rest s read = do
    (question, ts1, e1, h1, m1) ← mark_took (codes "?") _ ts e rest read
    (first, ts2, was2, m2) ← then_took (inner ts1) _ e rest m1
    (middle, e2, s2) ← sound ts1 first ts2 was2
    (colon, ts3, e3, h3, m3) ← mark_took (codes ":") _ ts2 e rest m2
    (second, ts4, was4, m4) ← then_took (inner ts3) _ e rest m3
    (back, e4, s4) ← sound ts3 second ts4 was4
    (
      question ∷ (middle ++ colon ∷ back),
      e1 ∙ ap (λ (us : List Tok). question ∷ us) (joined colon ts1 ts2 ts3 middle back rest e2 e3 (e4 ∙ ap (λ (us : List Tok). back ++ us) (sym (left_is m4)))),
      subst (λ (x : Expr). Conditional Inner (front ++ question ∷ (middle ++ colon ∷ back)) x) (sym (found_is m4)) (Conditional.choice front middle back question colon cond first second s h1 s2 h3 s4),
    )

  ended : Sound inner Inner → (cond : Expr) (front ts1 : List Tok) (e : Expr) (rest : List Tok) → Binary Inner 6 front cond → (if sees (codes "?") ts1 then choice inner cond ts1 else Ok (cond, ts1)) ≡ Ok (e, rest)
      → (us : List Tok) × (ts1 ≡ us ++ rest) × Conditional Inner (front ++ us) e
  ended sound cond front ts1 e rest s m = by (sees (codes "?") ts1) refl
    where
      by : (b : Bool) → sees (codes "?") ts1 ≡ b → (us : List Tok) × (ts1 ≡ us ++ rest) × Conditional Inner (front ++ us) e
      by true h = choice_took sound cond front ts1 e rest s (rw h at m)
      by false h = (
          let ends = rw h at m in
          ([], sym (left_is ends), subst (λ (us : List Tok). Conditional Inner us e) (sym (append-nil front)) (Conditional.plain front e (subst (λ (x : Expr). Binary Inner 6 front x) (sym (found_is ends)) s))))

  conditional_sound : Sound inner Inner → Sound (conditional inner) (Conditional Inner)
  unfolding conditional
  conditional_sound sound ts e rest read = do
    (cond, ts1, was, m1) ← then_took (level inner 6 ts) _ e rest read
    (front, e1, s) ← level_sound sound 6 ts cond ts1 was
    (us, e2, whole) ← ended sound cond front ts1 e rest s m1
    (front ++ us, e1 ∙ ap (λ (ys : List Tok). front ++ ys) e2 ∙ sym (append_assoc front us rest), whole)

expr_is_sound : (depth : ℕ) → Sound (expr depth) (IsExpr depth)
unfolding expr
expr_is_sound zero ts e rest read = cc
expr_is_sound (suc depth) ts e rest read = conditional_sound (expr depth) (IsExpr depth) (expr_is_sound depth) ts e rest read

pub expr_sound : (depth : ℕ) → Sound (expr depth) SpellsExpr
expr_sound depth ts e rest read = do
  (front, e1, s) ← expr_is_sound depth ts e rest read
  (front, e1, (depth, s))

-- What spells an expression is read as it, whatever follows that may end it.
use Rattle.std.proofs.Common.{◌≡◌, ◌==◌, ◌≤◌, ◌<◌, ◌&&◌, ℕ, zero, suc, ◌+◌, Bool, true, false, List, [], ◌∷◌, ◌++◌, length, codes, Some, None, Ok, if◌then◌else◌, is_some, bytes_eq, refl, sym, ap, ◌∙◌, subst, append_assoc, append-nil, length-append, arith}
use Rattle.std.proofs.lemmas.Bool.{eq-eqb, eqb-true}
use Rattle.std.proofs.lemmas.Slice.Eq.{bytes_eq-Decides}
use Rattle.vlog_tokens.specs.Toks.{Tok}
use Rattle.vlog_tree.specs.declared.expr.BinOp.{BinOp}
use Rattle.vlog_tree.specs.declared.expr.Expr.{Expr}
use Rattle.vlog_tree.specs.declared.expr.Expr.TheVariants as tree
use Rattle.vlog_tree.specs.declared.expr.UnOp.{UnOp}
use Rattle.vlog_tree.specs.Spelling.Exprs.{Binary, Conditional, IsExpr, Primary, SpellsExpr, Unary, named}
use Rattle.vlog_tree.specs.Spelling.Numbers.{IsNumber}
use Rattle.vlog_tree.specs.Spelling.Operators.{binary_operator, unary_operator}
use Rattle.vlog_tree.specs.Spelling.Parts.{Commas, Is, IsCount, IsName, Production, place_of, terminal}
use Rattle.vlog_tree.specs.Spelling.Selects as spelled
use Rattle.vlog_tree.specs.Spelling.Selects.{IsSelect}
use Rattle.vlog_parse.specs.Chains.{binary_of, chain, of_level, one_binary, one_unary, operation, sees_binary, sees_unary, unary_of, unary_operators, wrap}
use Rattle.vlog_parse.specs.Exprs.{braces, choice, conditional, expr, inner_brace, join, level, literal, parentheses, primary, reference, repeat, unary}
use Rattle.vlog_parse.specs.Looks.{is_decimal, sees_decimal_before}
use Rattle.vlog_numbers.specs.Values.{sees_based}
use Rattle.vlog_parse.specs.Reads.{Outcome, Parser, and_then, loop, next_terminal, one_more, sees, separated}
use Rattle.vlog_parse.proofs.ChainLoops.{chain_goes_on, unary_begins}
use Rattle.vlog_parse.proofs.ExprsBegin.{NoBrace, NoRepeat, commas_begin, expr_begins, expr_some, number_first}
use Rattle.vlog_parse.proofs.ExprsSound.{number_place}
use Rattle.vlog_parse.proofs.Follows.{EndsExpr, Quiet, end_quiet, mark_ends, mark_quiet, some_not_based}
use Rattle.vlog_parse.proofs.Lists.{separated_complete}
use Rattle.vlog_parse.proofs.Loops.{GoesOn, begins, goes_on, same_whole, stops}
use Rattle.vlog_parse.proofs.Numbers.{number_complete}
use Rattle.vlog_parse.proofs.Rules.{◌>>=◌, Complete, expects, sees_is, sees_other, takes}
use Rattle.vlog_parse.proofs.Selects.{select_complete, select_of_selected}
use Rattle.vlog_numbers.specs.Terminals.{is_size}
use Rattle.vlog_parse.proofs.Terminals.{count_decimal, decimals, name_found, name_free, names}

-- ---- the next token

-- What is neither a reserved word nor a mark is not seen as one.
sees_nothing : (text : List ℕ) (ts : List Tok) → next_terminal ts ≡ [] → bytes_eq [] text ≡ false → sees text ts ≡ false
sees_nothing text [] h differs = refl
sees_nothing text (tok ∷ ts) h differs = ap (λ (t : List ℕ). bytes_eq t text) h ∙ differs

decimal_before : (text : List ℕ) (digits second : Tok) (n : ℕ) (ts : List Tok) → IsCount digits n → Is text second → sees_decimal_before text (digits ∷ second ∷ ts) ≡ true
decimal_before text digits second n ts h is = ap (λ kind. is_decimal kind && bytes_eq (terminal second) text) h.0 ∙ sees_is text second ts is

closed : (front : List Tok) (closing : Tok) (rest : List Tok) → (front ++ closing ∷ []) ++ rest ≡ front ++ (closing ∷ rest)
closed front closing rest = append_assoc front (closing ∷ []) rest

same_number : (n : ℕ) → (n == n) ≡ true
same_number n = eq-eqb n n refl

-- A binary operator of the level above stands after operands of this level.
module _ (n : ℕ) (tok : Tok) (op : BinOp) (ts : List Tok) (is : binary_operator (terminal tok) ≡ Some (suc n, op)) where
  operator_no_bracket : sees (codes "[") (tok ∷ ts) ≡ false
  operator_no_bracket = by (bytes_eq (terminal tok) (codes "[")) refl
    where
      by : (b : Bool) → bytes_eq (terminal tok) (codes "[") ≡ b → bytes_eq (terminal tok) (codes "[") ≡ false
      by true e = (let same = (bytes_eq-Decides (terminal tok) (codes "[")).0 e in let none : binary_operator (codes "[") ≡ Some (suc n, op) = sym (ap binary_operator same) ∙ is in cc)
      by false e = e

  operator_not_based : sees_based (tok ∷ ts) ≡ false
  operator_not_based = some_not_based tok ts (λ e. let none : binary_operator [] ≡ Some (suc n, op) = sym (ap binary_operator e) ∙ is in cc)

  not_tighter : (k : ℕ) → k ≤ n → (suc n == k) ≡ false
  not_tighter k h = by (suc n == k) refl
    where
      by : (b : Bool) → (suc n == k) ≡ b → (suc n == k) ≡ false
      by true e = (let same = eqb-true (suc n) k e in absurd (omega (arith, same)))
      by false e = e

  operator_quiet : Quiet n (tok ∷ ts)
  operator_quiet = record {
    bracket = operator_no_bracket;
    based = operator_not_based;
    operator = λ k h. ap (λ found. is_some (of_level k found)) is ∙ ap (λ (b : Bool). is_some (if b then Some op else None)) (not_tighter k h);
  }

  operator_seen : sees_binary (suc n) (tok ∷ ts) ≡ true
  operator_seen = ap (λ found. is_some (of_level (suc n) found)) is ∙ ap (λ (b : Bool). is_some (if b then Some op else None)) (same_number (suc n))

weaker : (n : ℕ) (rest : List Tok) → Quiet (suc n) rest → Quiet n rest
weaker n rest quiet = record { bracket = quiet.bracket; based = quiet.based; operator = λ k h. quiet.operator k (omega (arith, h)) }

-- ---- numbers and names

module _ (inner : Parser Expr) where
  number_reads : {ts : List Tok} {bits : List Bool} → IsNumber ts bits → (rest : List Tok) → sees_based rest ≡ false → primary inner (ts ++ rest) ≡ Ok (tree.Number (place_of ts) bits, rest)
  unfolding primary literal
  number_reads {ts} {bits} is rest ends =
      let first = number_first is rest in
      rw (
        sees_nothing (codes "(") (ts ++ rest) first.0 refl,
        sees_nothing (codes "{") (ts ++ rest) first.0 refl,
        first.1,
        number_complete ts bits rest is ends,
        number_place is rest,
      ) refl

  name_reads : (word : Tok) (text : List ℕ) {ts : List Tok} {s : spelled.Select} → IsName word text → IsSelect ts s → (rest : List Tok) → sees (codes "[") rest ≡ false
      → primary inner (word ∷ (ts ++ rest)) ≡ Ok (named s word.at text, rest)
  unfolding primary reference
  name_reads word text {ts} {s} h is rest ends =
      let free = name_free word text h in
      rw (
        sees_nothing (codes "(") (word ∷ (ts ++ rest)) free refl,
        sees_nothing (codes "{") (word ∷ (ts ++ rest)) free refl,
        ap is_some (name_found word text h),
        names word text (ts ++ rest) h,
        select_complete is rest ends,
        select_of_selected s,
      ) refl

-- ---- one level of nesting

brace_reads : (count : ℕ) (second : Tok) (ts : List Tok) → is_size count ≡ true → Is (codes "{") second → inner_brace count (second ∷ ts) ≡ Ok (second, ts)
unfolding inner_brace
brace_reads count second ts fits h = rw (fits, expects (codes "{") second ts h) refl

module _ (inner : Parser Expr) (Inner : Production Expr) (size : ℕ) where
  abbrev Reads : Type 0
  Reads = Complete EndsExpr size inner Inner

  abbrev Begins : Type 0
  Begins = (ts : List Tok) (e : Expr) (rest : List Tok) → Inner ts e → NoBrace rest → NoRepeat (ts ++ rest)

  parts_read : Reads → {ts : List Tok} {parts : List Expr} → Commas Inner ts parts → (closing : Tok) (rest : List Tok) → Is (codes "}") closing → length ts ≤ size
      → separated inner (ts ++ (closing ∷ rest)) ≡ Ok (parts, closing ∷ rest)
  parts_read complete {ts} {parts} s closing rest h fits =
      separated_complete inner Inner EndsExpr size complete (λ comma us is. mark_ends (codes ",") comma us is refl) ts parts (closing ∷ rest) s fits
      (mark_ends (codes "}") closing rest h refl, sees_other (codes "}") (codes ",") closing rest h refl)

  parentheses_read : Reads → (opening closing : Tok) (ts : List Tok) (e : Expr) (rest : List Tok) → Is (codes "(") opening → Inner ts e → Is (codes ")") closing → length ts ≤ size
      → primary inner (opening ∷ (ts ++ (closing ∷ rest))) ≡ Ok (e, rest)
  unfolding primary parentheses
  parentheses_read complete opening closing ts e rest h1 s h2 fits =
      rw (
        sees_is (codes "(") opening (ts ++ (closing ∷ rest)) h1,
        expects (codes "(") opening (ts ++ (closing ∷ rest)) h1,
        complete ts e (closing ∷ rest) s fits (mark_ends (codes ")") closing rest h2 refl),
        expects (codes ")") closing rest h2,
      ) refl

  join_reads : Reads → Begins → (opening closing : Tok) (ts : List Tok) (parts : List Expr) (rest : List Tok) → Is (codes "{") opening → Commas Inner ts parts → Is (codes "}") closing → length ts ≤ size
      → primary inner (opening ∷ (ts ++ (closing ∷ rest))) ≡ Ok (tree.Join parts, rest)
  unfolding primary braces join
  join_reads complete starts opening closing ts parts rest h1 s h2 fits =
      rw (
        sees_other (codes "{") (codes "(") opening (ts ++ (closing ∷ rest)) h1 refl,
        sees_is (codes "{") opening (ts ++ (closing ∷ rest)) h1,
        expects (codes "{") opening (ts ++ (closing ∷ rest)) h1,
        commas_begin Inner starts s (closing ∷ rest) (sees_other (codes "}") (codes "{") closing rest h2 refl),
        parts_read complete s closing rest h2 fits,
        expects (codes "}") closing rest h2,
      ) refl

  repeat_reads : Reads → (opening digits second closing last : Tok) (ts : List Tok) (count : ℕ) (parts : List Expr) (rest : List Tok) → Is (codes "{") opening → IsCount digits count → Is (codes "{") second
      → Commas Inner ts parts → Is (codes "}") closing → Is (codes "}") last → length ts ≤ size
      → primary inner (opening ∷ digits ∷ second ∷ (ts ++ (closing ∷ last ∷ rest))) ≡ Ok (tree.Repeat count parts, rest)
  unfolding primary braces repeat
  repeat_reads complete opening digits second closing last ts count parts rest h1 h2 h3 s h4 h5 fits =
      let after = ts ++ (closing ∷ last ∷ rest) in
      rw (
        sees_other (codes "{") (codes "(") opening (digits ∷ second ∷ after) h1 refl,
        sees_is (codes "{") opening (digits ∷ second ∷ after) h1,
        expects (codes "{") opening (digits ∷ second ∷ after) h1,
        decimal_before (codes "{") digits second count after h2 h3,
        decimals digits count (second ∷ after) (count_decimal digits count h2).0,
        brace_reads count second after (count_decimal digits count h2).1 h3,
        parts_read complete s closing (last ∷ rest) h4 fits,
        expects (codes "}") closing (last ∷ rest) h4,
        expects (codes "}") last rest h5,
      ) refl

  between_fits : (ts : List Tok) (closing : Tok) → suc (length (ts ++ closing ∷ [])) ≤ suc size → length ts ≤ size
  between_fits ts closing fits = let both = rw length-append at fits in omega arith

  repeat_fits : (ts : List Tok) (closing last : Tok) → suc (suc (suc (length (ts ++ closing ∷ last ∷ [])))) ≤ suc size → length ts ≤ size
  repeat_fits ts closing last fits = let both = rw length-append at fits in omega arith

  primary_reads : Reads → Begins → {ts : List Tok} {e : Expr} → Primary Inner ts e → (rest : List Tok) → length ts ≤ suc size → sees (codes "[") rest ≡ false → sees_based rest ≡ false
      → primary inner (ts ++ rest) ≡ Ok (e, rest)
  primary_reads complete starts (Primary.number ts bits is) rest fits bracket based = number_reads inner is rest based
  primary_reads complete starts (Primary.name word ts text select is s) rest fits bracket based = name_reads inner word text is s rest bracket
  primary_reads complete starts (Primary.join opening closing ts parts h1 s h2) rest fits bracket based =
      ap (λ (us : List Tok). primary inner (opening ∷ us)) (closed ts closing rest) ∙ join_reads complete starts opening closing ts parts rest h1 s h2 (between_fits ts closing fits)
  primary_reads complete starts (Primary.repeat opening digits second closing last ts count parts h1 h2 h3 s h4 h5) rest fits bracket based =
      ap (λ (us : List Tok). primary inner (opening ∷ digits ∷ second ∷ us)) (append_assoc ts (closing ∷ last ∷ []) rest)
      ∙ repeat_reads complete opening digits second closing last ts count parts rest h1 h2 h3 s h4 h5 (repeat_fits ts closing last fits)
  primary_reads complete starts (Primary.parentheses opening closing ts e h1 s h2) rest fits bracket based =
      ap (λ (us : List Tok). primary inner (opening ∷ us)) (closed ts closing rest) ∙ parentheses_read complete opening closing ts e rest h1 s h2 (between_fits ts closing fits)

  -- ---- unary operators

  no_unary : (ts : List Tok) (text : List ℕ) → next_terminal ts ≡ text → unary_operator text ≡ None → sees_unary ts ≡ false
  no_unary ts text h none = ap (λ (t : List ℕ). is_some (unary_operator t)) h ∙ ap (λ found. is_some found) none

  primary_first : {ts : List Tok} {e : Expr} → Primary Inner ts e → (rest : List Tok) → sees_unary (ts ++ rest) ≡ false
  primary_first (Primary.number ts bits is) rest = let first = number_first is rest in no_unary (ts ++ rest) [] first.0 refl
  primary_first (Primary.name word ts text select is s) rest = no_unary (word ∷ (ts ++ rest)) [] (name_free word text is) refl
  primary_first (Primary.join opening closing ts parts h1 s h2) rest = no_unary (opening ∷ ((ts ++ closing ∷ []) ++ rest)) (codes "{") h1 refl
  primary_first (Primary.repeat opening digits second closing last ts count parts h1 h2 h3 s h4 h5) rest = no_unary (opening ∷ digits ∷ second ∷ ((ts ++ closing ∷ last ∷ []) ++ rest)) (codes "{") h1 refl
  primary_first (Primary.parentheses opening closing ts e h1 s h2) rest = no_unary (opening ∷ ((ts ++ closing ∷ []) ++ rest)) (codes "(") h1 refl

  one_unary_reads : (found : List UnOp) (tok : Tok) (op : UnOp) (ts : List Tok) → unary_operator (terminal tok) ≡ Some op → one_more one_unary found (tok ∷ ts) ≡ Ok (found ++ op ∷ [], ts)
  unfolding one_more one_unary
  one_unary_reads found tok op ts is = ap (λ (o : Outcome UnOp). and_then o (λ x us. Ok (found ++ x ∷ [], us))) (takes unary_of tok op ts is)

  -- The operators before a primary are found, and the primary is next.
  abbrev FoundOperators : Outcome (List UnOp) → List UnOp → List Tok → Expr → List Tok → Type 0
  FoundOperators whole found ts e rest = (ops : List UnOp) × (ps : List Tok) × (p : Expr) × Primary Inner ps p × (e ≡ wrap ops p) × (length ps ≤ length ts) × GoesOn sees_unary (one_more one_unary) whole (found ++ ops) (ps ++ rest)

  operators_found : (whole : Outcome (List UnOp)) {ts : List Tok} {e : Expr} → Unary Inner ts e → (found : List UnOp) (rest : List Tok) → GoesOn sees_unary (one_more one_unary) whole found (ts ++ rest)
      → FoundOperators whole found ts e rest
  operators_found whole (Unary.primary ts e s) found rest on =
      ([], ts, e, s, refl, omega arith, subst (λ (state : List UnOp). GoesOn sees_unary (one_more one_unary) whole state (ts ++ rest)) (sym (append-nil found)) on)
  operators_found whole (Unary.operator tok ts op e is s) found rest on = do
    (ops, ps, p, prim, same, shorter, more) ← operators_found whole s (found ++ op ∷ []) rest
        (goes_on sees_unary (one_more one_unary) whole found (found ++ op ∷ []) (tok ∷ (ts ++ rest)) (ts ++ rest) on (ap (λ x. is_some x) is) (one_unary_reads found tok op (ts ++ rest) is) (omega arith))
    (
      op ∷ ops,
      ps,
      p,
      prim,
      ap (λ (x : Expr). tree.Unary op x) same,
      omega (arith, shorter),
      subst (λ (state : List UnOp). GoesOn sees_unary (one_more one_unary) whole state (ps ++ rest)) (append_assoc found (op ∷ []) ops) more,
    )

  unary_reads : Reads → Begins → {ts : List Tok} {e : Expr} → Unary Inner ts e → (rest : List Tok) → length ts ≤ suc size → sees (codes "[") rest ≡ false → sees_based rest ≡ false → unary inner (ts ++ rest) ≡ Ok (e, rest)
  unfolding unary
  unary_reads complete starts {ts} {e} s rest fits bracket based = do
    (ops, ps, p, prim, same, shorter, on) ← operators_found (unary_operators (ts ++ rest)) s [] rest (unary_begins [] (ts ++ rest) refl)
    (
        ap (λ (o : Outcome (List UnOp)). and_then o (λ found us. and_then (primary inner us) (λ x vs. Ok (wrap found x, vs)))) (stops sees_unary (one_more one_unary) (unary_operators (ts ++ rest)) ops (ps ++ rest) on (primary_first prim rest))
        ∙ ap (λ (o : Outcome Expr). and_then o (λ x vs. Ok (wrap ops x, vs))) (primary_reads complete starts prim rest (omega (arith, shorter, fits)) bracket based)
        ∙ ap (λ (x : Expr). Ok (x, rest)) (sym same)
        )

  -- ---- binary operators

  abbrev LevelReads : ℕ → Type 0
  LevelReads n = (ts : List Tok) (e : Expr) → Binary Inner n ts e → (rest : List Tok) → length ts ≤ suc size → Quiet n rest → level inner n (ts ++ rest) ≡ Ok (e, rest)

  operation_reads : (n : ℕ) → LevelReads n → (left right : Expr) (tok : Tok) (op : BinOp) (back rest : List Tok) → binary_operator (terminal tok) ≡ Some (suc n, op) → Binary Inner n back right → length back ≤ suc size → Quiet n rest
      → operation (suc n) (level inner n) left (tok ∷ (back ++ rest)) ≡ Ok (tree.Binary op left right, rest)
  unfolding operation one_binary
  operation_reads n below left right tok op back rest is s fits quiet =
      ap (λ (o : Outcome BinOp). and_then o (λ x us. and_then (level inner n us) (λ y vs. Ok (tree.Binary x left y, vs)))) (takes (binary_of (suc n)) tok op (back ++ rest) (of_same is))
      ∙ ap (λ (o : Outcome Expr). and_then o (λ y vs. Ok (tree.Binary op left y, vs))) (below _ _ s rest fits quiet)
    where
      of_same : binary_operator (terminal tok) ≡ Some (suc n, op) → binary_of (suc n) tok ≡ Some op
      of_same h = ap (λ found. of_level (suc n) found) h ∙ ap (λ (b : Bool). if b then Some op else None) (same_number (suc n))

  front_fits : (front : List Tok) (tok : Tok) (back : List Tok) → length (front ++ tok ∷ back) ≤ suc size → length front ≤ suc size
  front_fits front tok back fits = let both = rw length-append at fits in omega arith

  back_fits : (front : List Tok) (tok : Tok) (back : List Tok) → length (front ++ tok ∷ back) ≤ suc size → length back ≤ suc size
  back_fits front tok back fits = let both = rw length-append at fits in omega arith

  longer : (tok : Tok) (back rest : List Tok) → length rest < length (tok ∷ (back ++ rest))
  longer tok back rest = rw length-append (omega arith)

  chain_reaches : (n : ℕ) → LevelReads n → {ts : List Tok} {e : Expr} → Binary Inner (suc n) ts e → (rest : List Tok) → length ts ≤ suc size → Quiet n rest
      → GoesOn (sees_binary (suc n)) (operation (suc n) (level inner n)) (chain (suc n) (level inner n) (ts ++ rest)) e rest
  chain_reaches n below (Binary.tighter k ts e s) rest fits quiet =
      same_whole (sees_binary (suc n)) (operation (suc n) (level inner n)) (loop (sees_binary (suc n)) (operation (suc n) (level inner n)) e rest) (chain (suc n) (level inner n) (ts ++ rest)) e rest
      (chain_goes_on (suc n) (level inner n) (ts ++ rest) e rest (below _ _ s rest fits quiet)) (begins (sees_binary (suc n)) (operation (suc n) (level inner n)) e rest)
  chain_reaches n below (Binary.operator k front back tok op left right s is s2) rest fits quiet =
      goes_on (sees_binary (suc n)) (operation (suc n) (level inner n)) (chain (suc n) (level inner n) ((front ++ tok ∷ back) ++ rest)) left (tree.Binary op left right) (tok ∷ (back ++ rest)) rest
      (subst (λ (us : List Tok). GoesOn (sees_binary (suc n)) (operation (suc n) (level inner n)) (chain (suc n) (level inner n) us) left (tok ∷ (back ++ rest))) (sym (append_assoc front (tok ∷ back) rest))
      (chain_reaches n below s (tok ∷ (back ++ rest)) (front_fits front tok back fits) (operator_quiet n tok op (back ++ rest) is)))
      (operator_seen n tok op (back ++ rest) is)
      (operation_reads n below left right tok op back rest is s2 (back_fits front tok back fits) quiet)
      (longer tok back rest)

  level_reads : Reads → Begins → (n : ℕ) → LevelReads n
  level_reads complete starts zero _ _ (Binary.unary ts e s) rest fits quiet = unary_reads complete starts s rest fits quiet.bracket quiet.based
  level_reads complete starts (suc n) ts e s rest fits quiet =
      stops (sees_binary (suc n)) (operation (suc n) (level inner n)) (chain (suc n) (level inner n) (ts ++ rest)) e rest
      (chain_reaches n (level_reads complete starts n) s rest fits (weaker n rest quiet)) (quiet.operator (suc n) (omega arith))

  -- ---- conditionals

  abbrev Ending : Expr → Parser Expr
  Ending cond = λ us. if sees (codes "?") us then choice inner cond us else Ok (cond, us)

  choice_reads : Reads → (cond first second : Expr) (question colon : Tok) (middle back rest : List Tok) → Is (codes "?") question → Inner middle first → Is (codes ":") colon → Inner back second
      → length middle ≤ size → length back ≤ size → EndsExpr rest → Ending cond (question ∷ (middle ++ (colon ∷ (back ++ rest)))) ≡ Ok (tree.Cond cond first second, rest)
  unfolding choice
  choice_reads complete cond first second question colon middle back rest h1 s h2 s2 fits fits2 ends =
      rw (
        sees_is (codes "?") question (middle ++ (colon ∷ (back ++ rest))) h1,
        expects (codes "?") question (middle ++ (colon ∷ (back ++ rest))) h1,
        complete middle first (colon ∷ (back ++ rest)) s fits (mark_ends (codes ":") colon (back ++ rest) h2 refl),
        expects (codes ":") colon (back ++ rest) h2,
        complete back second rest s2 fits2 ends,
      ) refl

  choice_fits : (front middle back : List Tok) (question colon : Tok) → length (front ++ question ∷ (middle ++ colon ∷ back)) ≤ suc size → (length front ≤ suc size) × (length middle ≤ size) × (length back ≤ size)
  choice_fits front middle back question colon fits =
      let all : length front + suc (length middle + suc (length back)) ≤ suc size = rw (length-append, length-append) at fits in
      (omega (arith, all), omega (arith, all), omega (arith, all))

  conditional_reads : Reads → Begins → {ts : List Tok} {e : Expr} → Conditional Inner ts e → (rest : List Tok) → length ts ≤ suc size → EndsExpr rest → conditional inner (ts ++ rest) ≡ Ok (e, rest)
  unfolding conditional
  conditional_reads complete starts (Conditional.plain ts e s) rest fits ends =
      let quiet = end_quiet 6 rest ends in
      ap (λ (o : Outcome Expr). and_then o Ending) (level_reads complete starts 6 _ _ s rest fits quiet.0)
      ∙ ap (λ (b : Bool). if b then choice inner e rest else Ok (e, rest)) quiet.1
  conditional_reads complete starts (Conditional.choice front middle back question colon cond first second s h1 s2 h3 s4) rest fits ends =
      let all = choice_fits front middle back question colon fits in
      let after = middle ++ (colon ∷ (back ++ rest)) in
      ap (λ (us : List Tok). conditional inner us) (append_assoc front (question ∷ (middle ++ colon ∷ back)) rest ∙ ap (λ (us : List Tok). front ++ (question ∷ us)) (append_assoc middle (colon ∷ back) rest))
      ∙ ap (λ (o : Outcome Expr). and_then o Ending) (level_reads complete starts 6 _ _ s (question ∷ after) all.0 (mark_quiet 6 (codes "?") question after h1 (λ e. cc) refl refl))
      ∙ choice_reads complete cond first second question colon middle back rest h1 s2 h3 s4 all.1 all.2 ends

expr_is_complete : (depth d : ℕ) → Complete EndsExpr depth (expr depth) (IsExpr d)
unfolding expr
expr_is_complete zero d front e rest s fits ends = let some = expr_some d front e s in absurd (omega (arith, some, fits))
expr_is_complete (suc depth) zero front e rest s fits ends = absurd s
expr_is_complete (suc depth) (suc d) front e rest s fits ends = conditional_reads (expr depth) (IsExpr d) depth (expr_is_complete depth d) (expr_begins d) s rest fits ends

pub expr_complete : (depth : ℕ) → Complete EndsExpr depth (expr depth) SpellsExpr
expr_complete depth front e rest (d, s) fits ends = expr_is_complete depth d front e rest s fits ends

-- What the rules of gates and instances make of the tokens up to one of them.
use Rattle.std.proofs.Common.{◌≡◌, ◌<◌, ◌≤◌, ◌+◌, ℕ, zero, suc, Bool, true, false, List, [], ◌∷◌, ◌++◌, ◌||◌, length, length-append, nat_le, codes, Option, Some, None, Ok, Err, refl, sym, ap, ◌∙◌, subst, append_assoc, arith}
use Rattle.std.proofs.lemmas.Bool.{leb-false, leb-true}
use Rattle.vlog_tokens.specs.Toks.{Tok}
use Rattle.vlog_tree.specs.declared.expr.Expr.{Expr}
use Rattle.vlog_tree.specs.declared.item.GateKind.{GateKind}
use Rattle.vlog_tree.specs.declared.item.Item.TheVariants.{Gate, Instance}
use Rattle.vlog_tree.specs.declared.left.Left.{Left}
use Rattle.vlog_tree.specs.Spelling.Lefts.{SpellsLeft}
use Rattle.vlog_tree.specs.Spelling.Parts.{Is}
use Rattle.vlog_parse.specs.Exprs.{expr}
use Rattle.vlog_parse.specs.Gates.{connection, input_gate, instance, is_output, is_read, links, named_link, ordered_link, output, output_gate, outputs, title}
use Rattle.vlog_parse.specs.Lefts.{left}
use Rattle.vlog_parse.specs.Reads.{◌>>=◌, ◌>>◌, Outcome, Parser, and_then, expect, loop, loop_from, one_more, pure, sees}
use Rattle.vlog_parse.proofs.ExprsComplete.{expr_complete}
use Rattle.vlog_parse.proofs.Follows.{mark_ends}
use Rattle.vlog_parse.proofs.LeftExprs.{left_spells_expr}
use Rattle.vlog_parse.proofs.LeftsSound.{left_sound}
use Rattle.vlog_parse.proofs.LocalBoths.{Both, later_both, mark_both}
use Rattle.vlog_parse.proofs.LocalDepths.{expr_local, left_local}
use Rattle.vlog_parse.proofs.LocalLoops.{loop_keeps, one_more_local, separated_local}
use Rattle.vlog_parse.proofs.LocalNumbers.{name_local}
use Rattle.vlog_parse.proofs.Locals.{Keeps, Local, across, as_local, ending, expect_local, fronts, here_local, if_local, pure_local, then_keeps, then_local, weaker}
use Rattle.vlog_parse.proofs.Rules.{expect_took, expects, then_took}
use Rattle.vlog_parse.proofs.Turns.{one_more_is}

-- ---- lists

-- of two ways to cut a list, one cuts it first
overlap : (xs ys us vs : List Tok) → xs ++ ys ≡ us ++ vs → length us ≤ length xs → (two : List Tok) × (xs ≡ us ++ two) × (vs ≡ two ++ ys)
overlap xs ys [] vs e fits = (xs, refl, sym e)
overlap [] ys (u ∷ us) vs e fits = absurd (omega arith)
overlap (x ∷ xs) ys (u ∷ us) vs e fits =
    let tails : xs ++ ys ≡ us ++ vs = cc in
    let heads : x ≡ u = cc in
    let (two, first, second) = overlap xs ys us vs tails (omega arith) in
    (two, ap (λ (t : Tok). t ∷ xs) heads ∙ ap (λ (ts : List Tok). u ∷ ts) first, second)

module _ {n m : ℕ} where
  title_local : Local n m title title
  unfolding title
  title_local = if_local (sees (codes "(")) (λ tok rest more. refl) (pure_local None) (then_local name_local (λ text. pure_local (Some text)))

-- ---- outputs, which are tried

read_is : {A : Type 0} (outcome : Outcome A) → is_read outcome ≡ true → (a : A) × (left : List Tok) × (outcome ≡ Ok (a, left))
read_is (Ok (a, left)) h = (a, left, refl)
read_is (Err left) h = cc

module _ {n m : ℕ} (depth depth2 : ℕ) (low : n ≤ depth) (low2 : m ≤ depth2) where
  pub expr_in : Local n m (expr depth) (expr depth2)
  expr_in = weaker low low2 (expr_local depth depth2)

  left_in : Local n m (left depth) (left depth2)
  left_in = weaker low low2 (left_local depth depth2)

  left_back : Local m n (left depth2) (left depth)
  left_back = weaker low2 low (left_local depth2 depth)

  output_both : Both n m (output depth) (output depth2)
  unfolding output
  output_both = later_both left_in (λ found. mark_both (codes ",") (λ _. pure_local found))

  -- What follows the outputs ends as the rule says.
  module _ {B : Type 0} (close : List Left → Expr → Parser B) (closes : (outs : List Left) (e : Expr) → Local n m (close outs e) (close outs e)) where
    abbrev Last : ℕ → List Left → Parser B
    Last d outs = expr d >>= close outs

    last_local : (outs : List Left) → Local n m (Last depth outs) (Last depth2 outs)
    last_local outs = then_local expr_in (closes outs)

    module _ (outs : List Left) (front : List Tok) (tok : Tok) (rest more : List Tok) (found : Option B) (fits : length front + length rest < n) (fits2 : length front + length more < m) where
      -- A left side with its comma before the token or at it is one in both lists.
      comes_first : (target : Left) (us two : List Tok) (comma : Tok) (after : List Tok) → front ≡ us ++ two → comma ∷ after ≡ two ++ tok ∷ more → Is (codes ",") comma → left depth2 (front ++ tok ∷ more) ≡ Ok (target, comma ∷ after)
          → is_output depth (front ++ tok ∷ rest) ≡ true
      unfolding is_output output
      comes_first target us two comma after e e2 is h =
          let longs : length front ≡ length us + length two = ap (length {A = Tok}) e ∙ length-append us two in
          let old : front ++ tok ∷ rest ≡ us ++ (two ++ tok ∷ rest) = ap (λ (xs : List Tok). xs ++ tok ∷ rest) e ∙ append_assoc us two (tok ∷ rest) in
          let new : front ++ tok ∷ more ≡ us ++ (two ++ tok ∷ more) = ap (λ (xs : List Tok). xs ++ tok ∷ more) e ∙ append_assoc us two (tok ∷ more) in
          let back : left depth (us ++ (two ++ tok ∷ rest)) ≡ Ok (target, two ++ tok ∷ rest) = across left_back us two tok more rest (Some target) (omega arith) (omega arith) (ap (left depth2) (sym new) ∙ h ∙ ap (λ (xs : List Tok). Ok (target, xs)) e2) in
          ap (λ (o : Outcome Left). is_read (and_then o (λ found. expect (codes ",") >> pure found))) (ap (left depth) old ∙ back) ∙ by two e2
        where
          by : (two : List Tok) → comma ∷ after ≡ two ++ tok ∷ more → is_read (and_then (expect (codes ",") (two ++ tok ∷ rest)) (λ _. pure target)) ≡ true
          by [] e2 = (
              let same : comma ≡ tok = cc in
              ap (λ (o : Outcome Tok). is_read (and_then o (λ _. pure target))) (expects (codes ",") tok rest (subst (λ (t : Tok). Is (codes ",") t) same is)))
          by (first ∷ two) e2 = (
              let same : comma ≡ first = cc in
              ap (λ (o : Outcome Tok). is_read (and_then o (λ _. pure target))) (expects (codes ",") first (two ++ tok ∷ rest) (subst (λ (t : Tok). Is (codes ",") t) same is)))

      -- A left side that goes on past the token would be read as an expression, past the token too.
      goes_past : (target : Left) (us two : List Tok) (comma : Tok) (after : List Tok) → us ≡ front ++ two → tok ∷ more ≡ two ++ comma ∷ after → length front < length us → Is (codes ",") comma
          → (s : (e : Expr) × (expr depth2 (us ++ comma ∷ after) ≡ Ok (e, comma ∷ after))) → Last depth2 outs (front ++ tok ∷ more) ≡ ending found (tok ∷ more) → ⊥
      goes_past target us two comma after e e2 longer is (x, read) last =
          let longs : length us ≡ length front + length two = ap (length {A = Tok}) e ∙ length-append front two in
          let all : suc (length more) ≡ length two + suc (length after) = ap (length {A = Tok}) e2 ∙ length-append two (comma ∷ after) in
          let new : front ++ tok ∷ more ≡ us ++ comma ∷ after = ap (λ (xs : List Tok). front ++ xs) e2 ∙ sym (append_assoc front two (comma ∷ after)) ∙ ap (λ (xs : List Tok). xs ++ comma ∷ after) (sym e) in
          let closed : close outs x (comma ∷ after) ≡ ending found (tok ∷ more) = ap (λ (o : Outcome Expr). and_then o (close outs)) (sym (ap (expr depth2) new ∙ read)) ∙ last in
          let (kept, same) = (closes outs x).keeps (comma ∷ after) found (tok ∷ more) closed in
          let short : suc (length after) ≡ length kept + suc (length more) = ap (length {A = Tok}) same ∙ length-append kept (tok ∷ more) in
          omega arith

      no_output : is_output depth (front ++ tok ∷ rest) ≡ false → Last depth2 outs (front ++ tok ∷ more) ≡ ending found (tok ∷ more) → is_output depth2 (front ++ tok ∷ more) ≡ true → ⊥
      unfolding is_output output
      no_output none last some =
          let (target, stop, was) = read_is (output depth2 (front ++ tok ∷ more)) some in
          let (also, mid, read, next) = then_took (left depth2 (front ++ tok ∷ more)) _ target stop was in
          let (comma, after, marked, ends) = then_took (expect (codes ",") mid) _ target stop next in
          let (e, is) = expect_took (codes ",") mid comma after marked in
          let (us, cut, spelled) = left_sound depth2 (front ++ tok ∷ more) also mid read in
          by also us comma after is (cut ∙ ap (λ (xs : List Tok). us ++ xs) e) (read ∙ ap (λ (xs : List Tok). Ok (also, xs)) e) (nat_le (length us) (length front)) refl (reads us also comma after is spelled)
        where
          reads : (us : List Tok) (also : Left) (comma : Tok) (after : List Tok) → Is (codes ",") comma → SpellsLeft us also → length us ≤ depth2 → (e : Expr) × (expr depth2 (us ++ comma ∷ after) ≡ Ok (e, comma ∷ after))
          reads us also comma after is spelled short = let (e, s) = left_spells_expr us also spelled in (e, expr_complete depth2 us e (comma ∷ after) s short (mark_ends (codes ",") comma after is refl))

          by : (also : Left) (us : List Tok) (comma : Tok) (after : List Tok) → Is (codes ",") comma → front ++ tok ∷ more ≡ us ++ comma ∷ after → left depth2 (front ++ tok ∷ more) ≡ Ok (also, comma ∷ after) → (b : Bool) → nat_le (length us) (length front) ≡ b
              → (length us ≤ depth2 → (e : Expr) × (expr depth2 (us ++ comma ∷ after) ≡ Ok (e, comma ∷ after))) → ⊥
          by also us comma after is cut read true h expressed = (
              let (two, e, e2) = overlap front (tok ∷ more) us (comma ∷ after) cut (leb-true (length us) (length front) h) in
              let yes_it_is = comes_first also us two comma after e e2 is read in cc)
          by also us comma after is cut read false h expressed = (
              let longer : length front < length us = leb-false (length us) (length front) h in
              let all : length front + suc (length more) ≡ length us + suc (length after) = sym (length-append front (tok ∷ more)) ∙ ap (length {A = Tok}) cut ∙ length-append us (comma ∷ after) in
              let (two, e, e2) = overlap us (comma ∷ after) front (tok ∷ more) (sym cut) (omega arith) in
              goes_past also us two comma after e e2 longer is (expressed (omega arith)) last)

    -- ---- any number of outputs, and what follows them

    abbrev TailMoves : ℕ → Type 0
    TailMoves turns = (turns2 : ℕ) (outs : List Left) (front : List Tok) (tok : Tok) (rest more : List Tok) (found : Option B) → length front + length rest < n → length front + length more < m
        → length front + length rest < turns → length front < turns2 → and_then (loop_from (is_output depth) (one_more (output depth)) turns outs (front ++ tok ∷ rest)) (Last depth) ≡ ending found (tok ∷ rest)
        → and_then (loop_from (is_output depth2) (one_more (output depth2)) turns2 outs (front ++ tok ∷ more)) (Last depth2) ≡ ending found (tok ∷ more)

    -- one turn, where an output comes next
    turn_is : (d turns : ℕ) (outs : List Left) (target : Left) (ts left : List Tok) → output d ts ≡ Ok (target, left)
        → and_then (loop_from (is_output d) (one_more (output d)) (suc turns) outs ts) (Last d) ≡ and_then (loop_from (is_output d) (one_more (output d)) turns (outs ++ target ∷ []) left) (Last d)
    unfolding loop_from is_output
    turn_is d turns outs target ts left h = rw (h, one_more_is (output d) outs ts target left h) refl

    -- the last turn
    stop_is : (d turns : ℕ) (outs : List Left) (ts : List Tok) → is_output d ts ≡ false → and_then (loop_from (is_output d) (one_more (output d)) (suc turns) outs ts) (Last d) ≡ Last d outs ts
    unfolding loop_from
    stop_is d turns outs ts h = rw h refl

    tail_keeps : (turns : ℕ) (outs : List Left) → Keeps (loop_from (is_output depth) (one_more (output depth)) turns outs >>= Last depth)
    tail_keeps turns outs =
        then_keeps (loop_from (is_output depth) (one_more (output depth)) turns outs) (Last depth) (loop_keeps (is_output depth) (one_more (output depth)) (λ found. (one_more_local output_both.local found).keeps) turns outs)
        (λ found. (last_local found).keeps)

    tail_step : (turns : ℕ) → TailMoves turns → TailMoves (suc turns)
    unfolding is_output
    tail_step turns later zero outs front tok rest more found fits fits2 enough enough2 e = absurd (omega arith)
    tail_step turns later (suc turns2) outs front tok rest more found fits fits2 enough enough2 e = by (is_output depth (front ++ tok ∷ rest)) refl
      where
        goes_on : (target : Left) (one two : List Tok) → front ≡ one ++ two → output depth (front ++ tok ∷ rest) ≡ Ok (target, two ++ tok ∷ rest)
            → and_then (loop_from (is_output depth) (one_more (output depth)) turns (outs ++ target ∷ []) (two ++ tok ∷ rest)) (Last depth) ≡ ending found (tok ∷ rest)
            → and_then (loop_from (is_output depth2) (one_more (output depth2)) (suc turns2) outs (front ++ tok ∷ more)) (Last depth2) ≡ ending found (tok ∷ more)
        goes_on target one two is h next =
            let longs : length front ≡ length one + length two = ap (length {A = Tok}) is ∙ length-append one two in
            let took = output_both.takes.takes (front ++ tok ∷ rest) target (two ++ tok ∷ rest) h in
            let shorter : length two + suc (length rest) < length front + suc (length rest) = rw (length-append, length-append) at took in
            let old : front ++ tok ∷ rest ≡ one ++ (two ++ tok ∷ rest) = ap (λ (xs : List Tok). xs ++ tok ∷ rest) is ∙ append_assoc one two (tok ∷ rest) in
            let new : front ++ tok ∷ more ≡ one ++ (two ++ tok ∷ more) = ap (λ (xs : List Tok). xs ++ tok ∷ more) is ∙ append_assoc one two (tok ∷ more) in
            let there : output depth2 (front ++ tok ∷ more) ≡ Ok (target, two ++ tok ∷ more) =
            ap (output depth2) new ∙ across output_both.local one two tok rest more (Some target) (omega arith) (omega arith) (ap (output depth) (sym old) ∙ h) in
            turn_is depth2 turns2 outs target (front ++ tok ∷ more) (two ++ tok ∷ more) there ∙ later turns2 (outs ++ target ∷ []) two tok rest more found (omega arith) (omega arith) (omega arith) (omega arith) next

        stopped : (b : Bool) → is_output depth2 (front ++ tok ∷ more) ≡ b → is_output depth (front ++ tok ∷ rest) ≡ false → Last depth2 outs (front ++ tok ∷ more) ≡ ending found (tok ∷ more)
            → and_then (loop_from (is_output depth2) (one_more (output depth2)) (suc turns2) outs (front ++ tok ∷ more)) (Last depth2) ≡ ending found (tok ∷ more)
        stopped true some none last = absurd (no_output outs front tok rest more found fits fits2 none last some)
        stopped false none2 none last = stop_is depth2 turns2 outs (front ++ tok ∷ more) none2 ∙ last

        by : (b : Bool) → is_output depth (front ++ tok ∷ rest) ≡ b → and_then (loop_from (is_output depth2) (one_more (output depth2)) (suc turns2) outs (front ++ tok ∷ more)) (Last depth2) ≡ ending found (tok ∷ more)
        by true some =
            let (target, mid, read) = read_is (output depth (front ++ tok ∷ rest)) some in
            let next = sym (turn_is depth turns outs target (front ++ tok ∷ rest) mid read) ∙ e in
            let (one, e1) = output_both.local.keeps (front ++ tok ∷ rest) (Some target) mid read in
            let (two, e2) = tail_keeps turns (outs ++ target ∷ []) mid found (tok ∷ rest) next in
            goes_on target one two (fronts front one two mid tok rest e1 e2) (read ∙ ap (λ (xs : List Tok). Ok (target, xs)) e2)
            (ap (λ (xs : List Tok). and_then (loop_from (is_output depth) (one_more (output depth)) turns (outs ++ target ∷ []) xs) (Last depth)) (sym e2) ∙ next)
        by false none =
            let last = sym (stop_is depth turns outs (front ++ tok ∷ rest) none) ∙ e in
            stopped (is_output depth2 (front ++ tok ∷ more)) refl none ((last_local outs).moves front tok rest more found fits fits2 last)

    tail_moves : (turns : ℕ) → TailMoves turns
    tail_moves zero turns2 outs front tok rest more found fits fits2 enough enough2 e = absurd (omega arith)
    tail_moves (suc turns) turns2 outs front tok rest more found fits fits2 enough enough2 e = tail_step turns (tail_moves turns) turns2 outs front tok rest more found fits fits2 enough enough2 e

    tail_local : (outs : List Left) → Local n m (loop (is_output depth) (one_more (output depth)) outs >>= Last depth) (loop (is_output depth2) (one_more (output depth2)) outs >>= Last depth2)
    unfolding loop
    tail_local outs = record {
      keeps = λ ts found left e. tail_keeps (suc (length ts)) outs ts found left e;
      moves = λ front tok rest more found fits fits2 e. tail_moves (suc (length (front ++ tok ∷ rest))) (suc (length (front ++ tok ∷ more))) outs front tok rest more found fits fits2 (rw length-append (omega arith)) (rw length-append (omega arith)) e;
    }

    -- outputs, and what follows them
    outputs_is : (d : ℕ) (ts : List Tok) → and_then (outputs d ts) (Last d) ≡ and_then (output d ts) (λ first us. and_then (loop (is_output d) (one_more (output d)) (first ∷ []) us) (Last d))
    unfolding outputs
    outputs_is d ts = by (output d ts)
      where
        by : (o : Outcome Left) → and_then (and_then o (λ first. loop (is_output d) (one_more (output d)) (first ∷ []))) (Last d) ≡ and_then o (λ first us. and_then (loop (is_output d) (one_more (output d)) (first ∷ []) us) (Last d))
        by (Ok (a, left)) = refl
        by (Err left) = refl

    outputs_local : Local n m (outputs depth >>= Last depth) (outputs depth2 >>= Last depth2)
    outputs_local = as_local (outputs_is depth) (outputs_is depth2) (then_local output_both.local (λ first. tail_local (first ∷ [])))

-- ---- gates

module _ {n m : ℕ} (depth depth2 : ℕ) (low : n ≤ depth) (low2 : m ≤ depth2) where
  pub input_gate_local : (kind : GateKind) → Local n m (input_gate depth kind) (input_gate depth2 kind)
  unfolding input_gate
  input_gate_local kind =
      then_local here_local (λ at. then_local title_local (λ name. then_local (expect_local (codes "(")) (λ _. then_local (left_in depth depth2 low low2) (λ out. then_local (expect_local (codes ",")) (λ _. then_local (separated_local (expr_in depth depth2 low low2)) (λ inputs.
      then_local (expect_local (codes ")")) (λ _. pure_local (Gate at kind name (out ∷ []) inputs))))))))

  pub output_gate_local : (kind : GateKind) → Local n m (output_gate depth kind) (output_gate depth2 kind)
  unfolding output_gate
  output_gate_local kind =
      then_local here_local (λ at. then_local title_local (λ name. then_local (expect_local (codes "(")) (λ _.
      outputs_local depth depth2 low low2 (λ outs input. expect (codes ")") >> pure (Gate at kind name outs (input ∷ []))) (λ outs input. then_local (expect_local (codes ")")) (λ _. pure_local (Gate at kind name outs (input ∷ [])))))))

  -- ---- instances

  connection_local : Local n m (connection depth) (connection depth2)
  unfolding connection
  connection_local = if_local (λ ts. sees (codes ",") ts || sees (codes ")") ts) (λ tok rest more. refl) (pure_local None) (then_local (expr_in depth depth2 low low2) (λ found. pure_local (Some found)))

  named_link_local : Local n m (named_link depth) (named_link depth2)
  unfolding named_link
  named_link_local =
      then_local here_local (λ at. then_local (expect_local (codes ".")) (λ _. then_local name_local (λ port. then_local (expect_local (codes "(")) (λ _. then_local connection_local (λ connected. then_local (expect_local (codes ")")) (λ _.
      pure_local (record { at = at; port = Some port; expr = connected })))))))

  ordered_link_local : Local n m (ordered_link depth) (ordered_link depth2)
  unfolding ordered_link
  ordered_link_local = then_local here_local (λ at. then_local connection_local (λ connected. pure_local (record { at = at; port = None; expr = connected })))

  links_local : Local n m (links depth) (links depth2)
  unfolding links
  links_local = if_local (sees (codes ")")) (λ tok rest more. refl) (pure_local []) (if_local (sees (codes ".")) (λ tok rest more. refl) (separated_local named_link_local) (separated_local ordered_link_local))

  pub instance_local : (definition : List ℕ) → Local n m (instance depth definition) (instance depth2 definition)
  unfolding instance
  instance_local definition =
      then_local here_local (λ at. then_local name_local (λ title. then_local (expect_local (codes "(")) (λ _. then_local links_local (λ found. then_local (expect_local (codes ")")) (λ _. pure_local (Instance at definition title found))))))

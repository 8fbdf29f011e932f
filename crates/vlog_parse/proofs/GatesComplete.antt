-- Gates and instances that tokens spell are read.
use Rattle.std.proofs.Common.{◌≡◌, ◌≤◌, ◌<◌, ◌⊎◌, ℕ, ◌+◌, ◌||◌, true, false, List, [], ◌∷◌, ◌++◌, length, codes, Option, Some, None, Ok, Err, refl, sym, ap, ◌∙◌, append_assoc, length-append, inl, inr, arith}
use Rattle.vlog_tokens.specs.Toks.{Tok}
use Rattle.vlog_tree.specs.declared.expr.Expr.{Expr}
use Rattle.vlog_tree.specs.declared.item.GateKind.{GateKind}
use Rattle.vlog_tree.specs.declared.item.Link.{Link}
use Rattle.vlog_tree.specs.declared.left.Left.{Left}
use Rattle.vlog_tree.specs.Spelling.Exprs.{SpellsExpr}
use Rattle.vlog_tree.specs.Spelling.Gates.{AreLinks, AreOrderedLinks, IsInputGate, IsInstance, IsLink, IsLoneBlank, IsOrderedLink, IsOutputGate}
use Rattle.vlog_tree.specs.Spelling.Lefts.{SpellsLeft}
use Rattle.vlog_tree.specs.Spelling.Parts.{Commas, Is, IsName, One, Optional}
use Rattle.vlog_parse.specs.Exprs.{expr}
use Rattle.vlog_parse.specs.Gates.{connection, input_gate, instance, is_output, is_read, links, named_link, ordered_link, output, output_gate, outputs, title}
use Rattle.vlog_parse.specs.Lefts.{left}
use Rattle.vlog_parse.specs.Reads.{Outcome, loop, one_more, one_more_after_comma, sees, separated}
use Rattle.vlog_parse.proofs.Fronts.{Begins, expr_begins, left_is_expr, place_before, place_front}
use Rattle.vlog_parse.proofs.GatesSound.{one_part, output_took, three_parts}
use Rattle.vlog_parse.proofs.Lists.{separated_complete}
use Rattle.vlog_parse.proofs.Loops.{GoesOn, begins, goes_on, stops}
use Rattle.vlog_parse.proofs.Rules.{◌>>=◌, Complete, Sound, expects, left_is, sees_is, sees_other}
use Rattle.vlog_parse.proofs.Terminals.{name_free, names}
use Rattle.vlog_parse.proofs.Turns.{one_more_is}

-- ---- how many tokens the parts have

pub first_fits : (us vs : List Tok) (size : ℕ) → length (us ++ vs) ≤ size → length us ≤ size
first_fits us vs size fits = let both = rw length-append at fits in omega arith

pub second_fits : (us : List Tok) (tok : Tok) (vs : List Tok) (size : ℕ) → length (us ++ tok ∷ vs) ≤ size → length vs ≤ size
second_fits us tok vs size fits = let both = rw length-append at fits in omega arith

-- ---- what comes next

pub no_comma_next : (ts rest : List Tok) → Begins ts → sees (codes ",") (ts ++ rest) ≡ false
no_comma_next ts rest b = ap (λ (xs : List Tok). sees (codes ",") (xs ++ rest)) b.is ∙ b.no_comma

pub no_closing_next : (ts rest : List Tok) → Begins ts → sees (codes ")") (ts ++ rest) ≡ false
no_closing_next ts rest b = ap (λ (xs : List Tok). sees (codes ")") (xs ++ rest)) b.is ∙ b.no_closing

pub no_dot_next : (ts rest : List Tok) → Begins ts → sees (codes ".") (ts ++ rest) ≡ false
no_dot_next ts rest b = ap (λ (xs : List Tok). sees (codes ".") (xs ++ rest)) b.is ∙ b.no_dot

title_read : (ts : List Tok) (found : Option (List ℕ)) (opening : Tok) (rest : List Tok) → Optional (One IsName) ts found → Is (codes "(") opening → title (ts ++ opening ∷ rest) ≡ Ok (found, opening ∷ rest)
unfolding title
title_read ts None opening rest same h = rw (same, sees_is (codes "(") opening rest h) refl
title_read [] (Some n) opening rest s h = absurd s
title_read (tok ∷ []) (Some n) opening rest s h = rw (sees_other [] (codes "(") tok (opening ∷ rest) (name_free tok n s) refl, names tok n (opening ∷ rest) s) refl
title_read (tok ∷ next ∷ more) (Some n) opening rest s h = absurd s

-- A comma or a closing parenthesis.
abbrev pub Stops : Tok → Type 0
Stops after = Is (codes ",") after ⊎ Is (codes ")") after

stop_seen : (after : Tok) (rest : List Tok) → Stops after → (sees (codes ",") (after ∷ rest) || sees (codes ")") (after ∷ rest)) ≡ true
stop_seen after rest (inl h) = rw (sees_is (codes ",") after rest h) refl
stop_seen after rest (inr h) = rw (sees_other (codes ")") (codes ",") after rest h refl, sees_is (codes ")") after rest h) refl

-- Expressions are read to their end, which a comma or a closing parenthesis may be.
module _ (EndsExpr : List Tok → Type 0) (expr_complete : (depth : ℕ) → Complete EndsExpr depth (expr depth) SpellsExpr)
    (comma_ends : (comma : Tok) (rest : List Tok) → Is (codes ",") comma → EndsExpr (comma ∷ rest)) (closing_ends : (closing : Tok) (rest : List Tok) → Is (codes ")") closing → EndsExpr (closing ∷ rest)) where
  stop_ends : (after : Tok) (rest : List Tok) → Stops after → EndsExpr (after ∷ rest)
  stop_ends after rest (inl h) = comma_ends after rest h
  stop_ends after rest (inr h) = closing_ends after rest h

  connection_read : (depth : ℕ) (ts : List Tok) (connected : Option Expr) (after : Tok) (rest : List Tok) → Optional SpellsExpr ts connected → length ts ≤ depth → Stops after
      → connection depth (ts ++ after ∷ rest) ≡ Ok (connected, after ∷ rest)
  unfolding connection
  connection_read depth ts None after rest same fits h = rw (same, stop_seen after rest h) refl
  connection_read depth ts (Some one) after rest s fits h =
      let start = expr_begins ts one s in
      rw (no_comma_next ts (after ∷ rest) start, no_closing_next ts (after ∷ rest) start, expr_complete depth ts one (after ∷ rest) s fits (stop_ends after rest h)) refl

  -- ---- instances

  named_link_read : (depth : ℕ) → Complete (λ _. Unit {0}) depth (named_link depth) IsLink
  unfolding named_link
  named_link_read depth _ _ rest (IsLink.named_link dot word opening ts closing port connected h1 h2 h3 s h4) fits ends =
      let small : length ts ≤ depth = first_fits ts (closing ∷ []) depth (omega arith) in
      rw (
        one_part ts closing rest,
        expects (codes ".") dot (word ∷ opening ∷ (ts ++ closing ∷ rest)) h1,
        names word port (opening ∷ (ts ++ closing ∷ rest)) h2,
        expects (codes "(") opening (ts ++ closing ∷ rest) h3,
        connection_read depth ts connected closing rest s small (inr h4),
        expects (codes ")") closing rest h4,
      ) refl

  ordered_read : (depth : ℕ) (after : Tok) (ts : List Tok) (link : Link) (rest : List Tok) → IsOrderedLink after ts link → length ts ≤ depth → Stops after → ordered_link depth (ts ++ after ∷ rest) ≡ Ok (link, after ∷ rest)
  unfolding ordered_link
  ordered_read depth after _ _ rest IsOrderedLink.blank fits h = rw (connection_read depth [] None after rest refl fits h) refl
  ordered_read depth after _ _ rest (IsOrderedLink.connected ts one s) fits h =
      rw (place_front ts (after ∷ rest) (expr_begins ts one s), connection_read depth ts (Some one) after rest s fits h) refl

  -- The first of ordered links is read, and a loop goes on to the parenthesis after the last.
  record Ordered (depth : ℕ) (ts rest : List Tok) (found : List Link) : Type 0 where
    closing : Tok
    link : Link
    left : List Tok
    read : ordered_link depth (ts ++ rest) ≡ Ok (link, left)
    closes : Is (codes ")") closing
    within : length left ≤ length (ts ++ rest)
    goes : (whole : Outcome (List Link)) (before : List Link) → GoesOn (sees (codes ",")) (one_more_after_comma (ordered_link depth)) whole (before ++ link ∷ []) left → whole ≡ Ok (before ++ found, closing ∷ rest)

  turn : (depth : ℕ) (before : List Link) (comma : Tok) (ts : List Tok) (link : Link) (left : List Tok) → Is (codes ",") comma → ordered_link depth ts ≡ Ok (link, left)
      → one_more_after_comma (ordered_link depth) before (comma ∷ ts) ≡ Ok (before ++ link ∷ [], left)
  unfolding one_more_after_comma
  turn depth before comma ts link left h read = rw (expects (codes ",") comma ts h) (one_more_is (ordered_link depth) before ts link left read)

  ordered_goes : (depth : ℕ) (rest : List Tok) {ts : List Tok} {found : List Link} → AreOrderedLinks ts found → length ts ≤ depth → Ordered depth ts rest found
  ordered_goes depth rest (AreOrderedLinks.last ts closing link h s) fits = record {
    closing = closing;
    link = link;
    left = closing ∷ rest;
    read = rw (one_part ts closing rest) (ordered_read depth closing ts link rest s (first_fits ts (closing ∷ []) depth fits) (inr h));
    closes = h;
    within = rw (one_part ts closing rest, length-append) (omega arith);
    goes = λ whole before on. stops (sees (codes ",")) (one_more_after_comma (ordered_link depth)) whole (before ++ link ∷ []) (closing ∷ rest) on (sees_other (codes ")") (codes ",") closing rest h refl);
  }
  ordered_goes depth rest (AreOrderedLinks.next ts comma more link others h s spelled) fits =
      let next = ordered_goes depth rest spelled (second_fits ts comma more depth fits) in
      let whole_is : (ts ++ comma ∷ more) ++ rest ≡ ts ++ comma ∷ (more ++ rest) = append_assoc ts (comma ∷ more) rest in
      record {
        closing = next.closing;
        link = link;
        left = comma ∷ (more ++ rest);
        read = rw whole_is (ordered_read depth comma ts link (more ++ rest) s (first_fits ts (comma ∷ more) depth fits) (inl h));
        closes = next.closes;
        within = rw (whole_is, length-append {A = Tok} ts (comma ∷ (more ++ rest))) (omega arith);
        goes = λ whole before on.
            next.goes whole (before ++ link ∷ []) (goes_on (sees (codes ",")) (one_more_after_comma (ordered_link depth)) whole (before ++ link ∷ []) ((before ++ link ∷ []) ++ next.link ∷ []) (comma ∷ (more ++ rest)) next.left on
            (sees_is (codes ",") comma (more ++ rest) h) (turn depth (before ++ link ∷ []) comma (more ++ rest) next.link next.left h next.read) (omega (arith, next.within)))
            ∙ ap (λ (xs : List Link). Ok (xs, next.closing ∷ rest)) (append_assoc before (link ∷ []) others);
      }

  ordered_links_read : (depth : ℕ) (ts rest : List Tok) (found : List Link) (o : Ordered depth ts rest found) → separated (ordered_link depth) (ts ++ rest) ≡ Ok (found, o.closing ∷ rest)
  unfolding separated
  ordered_links_read depth ts rest found o =
      rw (one_more_is (ordered_link depth) [] (ts ++ rest) o.link o.left o.read)
      (o.goes (loop (sees (codes ",")) (one_more_after_comma (ordered_link depth)) (o.link ∷ []) o.left) [] (begins (sees (codes ",")) (one_more_after_comma (ordered_link depth)) (o.link ∷ []) o.left))

  -- Ordered links begin with neither a parenthesis nor a dot, but for a lone blank.
  ordered_begins : {ts : List Tok} {found : List Link} → AreOrderedLinks ts found → (rest : List Tok) → (IsLoneBlank found → ⊥) → (sees (codes ")") (ts ++ rest) ≡ false) × (sees (codes ".") (ts ++ rest) ≡ false)
  ordered_begins (AreOrderedLinks.last _ closing _ h IsOrderedLink.blank) rest many = absurd (many refl)
  ordered_begins (AreOrderedLinks.last _ closing _ h (IsOrderedLink.connected ts one s)) rest many =
      let start = expr_begins ts one s in
      rw (one_part ts closing rest) (no_closing_next ts (closing ∷ rest) start, no_dot_next ts (closing ∷ rest) start)
  ordered_begins (AreOrderedLinks.next _ comma more _ others h IsOrderedLink.blank spelled) rest many =
      (sees_other (codes ",") (codes ")") comma (more ++ rest) h refl, sees_other (codes ",") (codes ".") comma (more ++ rest) h refl)
  ordered_begins (AreOrderedLinks.next _ comma more _ others h (IsOrderedLink.connected ts one s) spelled) rest many =
      let start = expr_begins ts one s in
      rw (append_assoc ts (comma ∷ more) rest) (no_closing_next ts (comma ∷ (more ++ rest)) start, no_dot_next ts (comma ∷ (more ++ rest)) start)

  named_begins : {ts : List Tok} {found : List Link} → Commas IsLink ts found → (dot : Tok) × (more : List Tok) × (ts ≡ dot ∷ more) × Is (codes ".") dot
  named_begins (Commas.last _ _ (IsLink.named_link dot word opening ts closing port connected h1 h2 h3 s h4)) = (dot, _, refl, h1)
  named_begins (Commas.next _ comma rest _ others (IsLink.named_link dot word opening ts closing port connected h1 h2 h3 s h4) h more) = (dot, _, refl, h1)

  -- Links are read up to the parenthesis after them.
  abbrev LinksRead : ℕ → List Tok → List Tok → List Link → Type 0
  LinksRead depth ts rest found = (closing : Tok) × (links depth (ts ++ rest) ≡ Ok (found, closing ∷ rest)) × Is (codes ")") closing

  named_links_read : (depth : ℕ) (ts : List Tok) (closing : Tok) (rest : List Tok) (found : List Link) → Commas IsLink ts found → Is (codes ")") closing → length ts ≤ depth
      → (dot : Tok) (more : List Tok) → ts ≡ dot ∷ more → Is (codes ".") dot → links depth (ts ++ closing ∷ rest) ≡ Ok (found, closing ∷ rest)
  unfolding links
  named_links_read depth ts closing rest found s h fits dot more is first =
      let no_closing : sees (codes ")") (ts ++ closing ∷ rest) ≡ false = ap (λ (xs : List Tok). sees (codes ")") (xs ++ closing ∷ rest)) is ∙ sees_other (codes ".") (codes ")") dot (more ++ closing ∷ rest) first refl in
      let dotted : sees (codes ".") (ts ++ closing ∷ rest) ≡ true = ap (λ (xs : List Tok). sees (codes ".") (xs ++ closing ∷ rest)) is ∙ sees_is (codes ".") dot (more ++ closing ∷ rest) first in
      rw (no_closing, dotted)
      (separated_complete (named_link depth) IsLink (λ _. Unit {0}) depth (named_link_read depth) (λ _ _ _. tt) ts found (closing ∷ rest) s fits (tt, sees_other (codes ")") (codes ",") closing rest h refl))

  links_read : (depth : ℕ) (ts rest : List Tok) (found : List Link) → AreLinks ts found → length ts ≤ depth → LinksRead depth ts rest found
  unfolding links
  links_read depth _ rest _ (AreLinks.none closing h) fits = (closing, rw (sees_is (codes ")") closing rest h) refl, h)
  links_read depth _ rest _ (AreLinks.named ts closing found s h) fits = do
    (dot, more, is, first) ← named_begins s
    (closing, rw (one_part ts closing rest) (named_links_read depth ts closing rest found s h (first_fits ts (closing ∷ []) depth fits) dot more is first), h)
  links_read depth _ rest _ (AreLinks.ordered ts found s many) fits =
      let o = ordered_goes depth rest s fits in
      let (no_closing, no_dot) = ordered_begins s rest many in
      (o.closing, rw (no_closing, no_dot) (ordered_links_read depth ts rest found o), o.closes)

  pub instance_complete : (depth : ℕ) (definition : List ℕ) → Complete (λ _. Unit {0}) depth (instance depth definition) (IsInstance definition)
  unfolding instance
  instance_complete depth definition _ _ rest (IsInstance.instance word opening ts text found h1 h2 s) fits ends = do
    (closing, read, h) ← links_read depth ts rest found s (omega arith)
    rw (names word text (opening ∷ (ts ++ rest)) h1, expects (codes "(") opening (ts ++ rest) h2, read, expects (codes ")") closing rest h) refl

  -- ---- gates, whose left sides are read to their end, which a comma may be

  module _ (EndsLeft : List Tok → Type 0) (left_complete : (depth : ℕ) → Complete EndsLeft depth (left depth) SpellsLeft) (comma_ends_left : (comma : Tok) (rest : List Tok) → Is (codes ",") comma → EndsLeft (comma ∷ rest)) where
    pub input_gate_complete : (depth : ℕ) (kind : GateKind) → Complete (λ _. Unit {0}) depth (input_gate depth kind) (IsInputGate kind)
    unfolding input_gate
    input_gate_complete depth kind _ _ rest (IsInputGate.gate ns opening os comma is closing named out inputs s1 h1 s2 h2 s3 h3) fits ends =
        let inner : length (os ++ comma ∷ (is ++ closing ∷ [])) ≤ depth = second_fits ns opening (os ++ comma ∷ (is ++ closing ∷ [])) depth fits in
        let small : length os ≤ depth = first_fits os (comma ∷ (is ++ closing ∷ [])) depth inner in
        let few : length is ≤ depth = first_fits is (closing ∷ []) depth (second_fits os comma (is ++ closing ∷ []) depth inner) in
        rw (
          three_parts ns os is opening comma closing rest,
          place_before ns opening (os ++ comma ∷ (is ++ closing ∷ rest)),
          title_read ns named opening (os ++ comma ∷ (is ++ closing ∷ rest)) s1 h1,
          expects (codes "(") opening (os ++ comma ∷ (is ++ closing ∷ rest)) h1,
          left_complete depth os out (comma ∷ (is ++ closing ∷ rest)) s2 small (comma_ends_left comma (is ++ closing ∷ rest) h2),
          expects (codes ",") comma (is ++ closing ∷ rest) h2,
          separated_complete (expr depth) SpellsExpr EndsExpr depth (expr_complete depth) comma_ends is inputs (closing ∷ rest) s3 few (closing_ends closing rest h3, sees_other (codes ")") (codes ",") closing rest h3 refl),
          expects (codes ")") closing rest h3,
        ) refl

    output_read : (depth : ℕ) (os : List Tok) (out : Left) (comma : Tok) (rest : List Tok) → SpellsLeft os out → length os ≤ depth → Is (codes ",") comma → output depth (os ++ comma ∷ rest) ≡ Ok (out, rest)
    unfolding output
    output_read depth os out comma rest s fits h = rw (left_complete depth os out (comma ∷ rest) s fits (comma_ends_left comma rest h), expects (codes ",") comma rest h) refl

    output_seen : (depth : ℕ) (ts : List Tok) (out : Left) (rest : List Tok) → output depth ts ≡ Ok (out, rest) → is_output depth ts ≡ true
    unfolding is_output
    output_seen depth ts out rest e = rw e refl

    -- The first output is read, and a loop goes on to the one before the input.
    record Several (depth : ℕ) (ts rest : List Tok) (found : List Left) : Type 0 where
      out : Left
      left : List Tok
      read : output depth ts ≡ Ok (out, left)
      within : length left < length ts
      goes : (whole : Outcome (List Left)) (before : List Left) → GoesOn (is_output depth) (one_more (output depth)) whole (before ++ out ∷ []) left → whole ≡ Ok (before ++ found, rest)

    outputs_go : (depth : ℕ) (last : Tok) (rest : List Tok) → Is (codes ",") last → is_output depth rest ≡ false → {us : List Tok} {found : List Left} → Commas SpellsLeft us found → length us ≤ depth → Several depth (us ++ last ∷ rest) rest found
    outputs_go depth last rest is unseen (Commas.last only out s) fits = record {
      out = out;
      left = rest;
      read = output_read depth only out last rest s fits is;
      within = rw length-append (omega arith);
      goes = λ whole before on. stops (is_output depth) (one_more (output depth)) whole (before ++ out ∷ []) rest on unseen;
    }
    outputs_go depth last rest is unseen (Commas.next first comma more out others s h spelled) fits =
        let next = outputs_go depth last rest is unseen spelled (second_fits first comma more depth fits) in
        let whole_is : (first ++ comma ∷ more) ++ last ∷ rest ≡ first ++ comma ∷ (more ++ last ∷ rest) = append_assoc first (comma ∷ more) (last ∷ rest) in
        record {
          out = out;
          left = more ++ last ∷ rest;
          read = rw whole_is (output_read depth first out comma (more ++ last ∷ rest) s (first_fits first (comma ∷ more) depth fits) h);
          within = rw (whole_is, length-append {A = Tok} first (comma ∷ (more ++ last ∷ rest))) (omega arith);
          goes = λ whole before on.
              next.goes whole (before ++ out ∷ []) (goes_on (is_output depth) (one_more (output depth)) whole (before ++ out ∷ []) ((before ++ out ∷ []) ++ next.out ∷ []) (more ++ last ∷ rest) next.left on
              (output_seen depth (more ++ last ∷ rest) next.out next.left next.read) (one_more_is (output depth) (before ++ out ∷ []) (more ++ last ∷ rest) next.out next.left next.read) next.within)
              ∙ ap (λ (xs : List Left). Ok (xs, rest)) (append_assoc before (out ∷ []) others);
        }

    outputs_read : (depth : ℕ) (ts rest : List Tok) (found : List Left) → Several depth ts rest found → outputs depth ts ≡ Ok (found, rest)
    unfolding outputs
    outputs_read depth ts rest found o =
        rw o.read (o.goes (loop (is_output depth) (one_more (output depth)) (o.out ∷ []) o.left) [] (begins (is_output depth) (one_more (output depth)) (o.out ∷ []) o.left))

    -- An input is no output: it would end both before a comma and before the parenthesis.
    input_is_none : (expr_sound : (depth : ℕ) → Sound (expr depth) SpellsExpr) (left_sound : (depth : ℕ) → Sound (left depth) SpellsLeft) (depth : ℕ) (is : List Tok) (input : Expr) (closing : Tok) (rest : List Tok)
        → SpellsExpr is input → Is (codes ")") closing → (outcome : Outcome Left) → output depth (is ++ closing ∷ rest) ≡ outcome → is_read outcome ≡ false
    input_is_none expr_sound left_sound depth is input closing rest s h (Err stuck) e = refl
    input_is_none expr_sound left_sound depth is input closing rest s h (Ok (out, later)) e = do
      (os, comma, same, t, g) ← output_took expr_sound left_sound depth (is ++ closing ∷ rest) out later e
      (other, u) ← left_is_expr os out t
      one ← expr_complete (length os + length is) os other (comma ∷ later) u (omega arith) (comma_ends comma later g)
      two ← expr_complete (length os + length is) is input (closing ∷ rest) s (omega arith) (closing_ends closing rest h)
      both ← left_is (sym one ∙ ap (expr (length os + length is)) (sym same) ∙ two)
      seen ← ap (sees (codes ",")) both ∙ sees_is (codes ",") comma later g
      unseen ← sees_other (codes ")") (codes ",") closing rest h refl
      cc

    not_an_output : (expr_sound : (depth : ℕ) → Sound (expr depth) SpellsExpr) (left_sound : (depth : ℕ) → Sound (left depth) SpellsLeft) (depth : ℕ) (is : List Tok) (input : Expr) (closing : Tok) (rest : List Tok)
        → SpellsExpr is input → Is (codes ")") closing → is_output depth (is ++ closing ∷ rest) ≡ false
    unfolding is_output
    not_an_output expr_sound left_sound depth is input closing rest s h = input_is_none expr_sound left_sound depth is input closing rest s h (output depth (is ++ closing ∷ rest)) refl

    pub output_gate_complete : ((depth : ℕ) → Sound (expr depth) SpellsExpr) → ((depth : ℕ) → Sound (left depth) SpellsLeft) → (depth : ℕ) (kind : GateKind) → Complete (λ _. Unit {0}) depth (output_gate depth kind) (IsOutputGate kind)
    unfolding output_gate
    output_gate_complete expr_sound left_sound depth kind _ _ rest (IsOutputGate.gate ns opening os comma is closing named outs input s1 h1 s2 h2 s3 h3) fits ends =
        let inner : length (os ++ comma ∷ (is ++ closing ∷ [])) ≤ depth = second_fits ns opening (os ++ comma ∷ (is ++ closing ∷ [])) depth fits in
        let small : length os ≤ depth = first_fits os (comma ∷ (is ++ closing ∷ [])) depth inner in
        let few : length is ≤ depth = first_fits is (closing ∷ []) depth (second_fits os comma (is ++ closing ∷ []) depth inner) in
        let unseen = not_an_output expr_sound left_sound depth is input closing rest s3 h3 in
        let read = outputs_read depth (os ++ comma ∷ (is ++ closing ∷ rest)) (is ++ closing ∷ rest) outs (outputs_go depth comma (is ++ closing ∷ rest) h2 unseen s2 small) in
        rw (
          three_parts ns os is opening comma closing rest,
          place_before ns opening (os ++ comma ∷ (is ++ closing ∷ rest)),
          title_read ns named opening (os ++ comma ∷ (is ++ closing ∷ rest)) s1 h1,
          expects (codes "(") opening (os ++ comma ∷ (is ++ closing ∷ rest)) h1,
          read,
          expr_complete depth is input (closing ∷ rest) s3 few (closing_ends closing rest h3),
          expects (codes ")") closing rest h3,
        ) refl

-- What the rules of gates and instances read is spelled by the tokens that they take.
use Rattle.std.proofs.Common.{◌≡◌, ℕ, zero, suc, ◌||◌, Bool, true, false, List, [], ◌∷◌, ◌++◌, length, codes, Option, Some, None, Ok, refl, sym, ap, ◌∙◌, subst, append_assoc}
use Rattle.vlog_tokens.specs.Toks.{Tok}
use Rattle.vlog_tree.specs.declared.expr.Expr.{Expr}
use Rattle.vlog_tree.specs.declared.item.GateKind.{GateKind}
use Rattle.vlog_tree.specs.declared.item.Item.{Item}
use Rattle.vlog_tree.specs.declared.item.Item.TheVariants.{Gate, Instance}
use Rattle.vlog_tree.specs.declared.item.Link.{Link}
use Rattle.vlog_tree.specs.declared.left.Left.{Left}
use Rattle.vlog_tree.specs.Spelling.Exprs.{SpellsExpr}
use Rattle.vlog_tree.specs.Spelling.Gates.{AreLinks, AreOrderedLinks, IsInputGate, IsInstance, IsLink, IsLoneBlank, IsOrderedLink, IsOutputGate}
use Rattle.vlog_tree.specs.Spelling.Lefts.{SpellsLeft}
use Rattle.vlog_tree.specs.Spelling.Parts.{Commas, Is, IsName, One, Optional, place_of}
use Rattle.vlog_parse.specs.Exprs.{expr}
use Rattle.vlog_parse.specs.Gates.{connection, input_gate, instance, is_output, links, named_link, ordered_link, output, output_gate, outputs, title}
use Rattle.vlog_parse.specs.Lefts.{left}
use Rattle.vlog_parse.specs.Reads.{loop, loop_from, one_more, one_more_after_comma, sees, separated}
use Rattle.vlog_parse.specs.Terminals.{name}
use Rattle.vlog_parse.proofs.Fronts.{expr_begins, place_before, place_front}
use Rattle.vlog_parse.proofs.Lists.{separated_sound}
use Rattle.vlog_parse.proofs.Rules.{◌>>=◌, Sound, Took, found_is, left_is, mark_took, then_took}
use Rattle.vlog_parse.proofs.Terminals.{name_took}

-- ---- tokens that were taken one part after another

pub three_parts : (us vs ws : List Tok) (x y z : Tok) (rest : List Tok) → (us ++ x ∷ (vs ++ y ∷ (ws ++ z ∷ []))) ++ rest ≡ us ++ x ∷ (vs ++ y ∷ (ws ++ z ∷ rest))
three_parts us vs ws x y z rest = simp append_assoc

abbrev pub gate_tokens : List Tok → Tok → List Tok → Tok → List Tok → Tok → List Tok
gate_tokens us x vs y ws z = us ++ x ∷ (vs ++ y ∷ (ws ++ z ∷ []))

pub one_part : (us : List Tok) (z : Tok) (rest : List Tok) → (us ++ z ∷ []) ++ rest ≡ us ++ z ∷ rest
one_part us z rest = simp append_assoc

title_sound : Sound title (Optional (One IsName))
unfolding title
title_sound ts found rest e = by (sees (codes "(") ts) refl
  where
    by : (b : Bool) → sees (codes "(") ts ≡ b → Took (Optional (One IsName)) ts found rest
    by true h = let ends = rw h at e in ([], sym (left_is ends), subst (λ (o : Option (List ℕ)). Optional (One IsName) [] o) (sym (found_is ends)) refl)
    by false h = do
      (text, left, was, m) ← then_took (name ts) _ found rest (rw h at e)
      (tok, is, s) ← name_took ts text left was
      (tok ∷ [], is ∙ ap (λ (xs : List Tok). tok ∷ xs) (sym (left_is m)), subst (λ (o : Option (List ℕ)). Optional (One IsName) (tok ∷ []) o) (sym (found_is m)) s)

module _ (expr_sound : (depth : ℕ) → Sound (expr depth) SpellsExpr) where
  connection_sound : (depth : ℕ) → Sound (connection depth) (Optional SpellsExpr)
  unfolding connection
  connection_sound depth ts found rest e = by (sees (codes ",") ts || sees (codes ")") ts) refl
    where
      by : (b : Bool) → (sees (codes ",") ts || sees (codes ")") ts) ≡ b → Took (Optional SpellsExpr) ts found rest
      by true h = let ends = rw h at e in ([], sym (left_is ends), subst (λ (o : Option Expr). Optional SpellsExpr [] o) (sym (found_is ends)) refl)
      by false h = do
        (one, left, was, m) ← then_took (expr depth ts) _ found rest (rw h at e)
        (front, is, s) ← expr_sound depth ts one left was
        (front, is ∙ ap (λ (xs : List Tok). front ++ xs) (sym (left_is m)), subst (λ (o : Option Expr). Optional SpellsExpr front o) (sym (found_is m)) s)

  named_link_sound : (depth : ℕ) → Sound (named_link depth) IsLink
  unfolding named_link
  named_link_sound depth ts link rest e = do
    (dot, ts1, e1, h1, m1) ← mark_took (codes ".") _ ts link rest e
    (port, ts2, was2, m2) ← then_took (name ts1) _ link rest m1
    (word, e2, h2) ← name_took ts1 port ts2 was2
    (opening, ts3, e3, h3, m3) ← mark_took (codes "(") _ ts2 link rest m2
    (connected, ts4, was4, m4) ← then_took (connection depth ts3) _ link rest m3
    (us, e4, s4) ← connection_sound depth ts3 connected ts4 was4
    (closing, ts5, e5, h5, m5) ← mark_took (codes ")") _ ts4 link rest m4
    (
      dot ∷ word ∷ opening ∷ (us ++ closing ∷ []),
      (cc (left_is m5, one_part us closing rest)),
      subst (λ (l : Link). IsLink (dot ∷ word ∷ opening ∷ (us ++ closing ∷ [])) l)
          (sym (found_is m5 ∙ ap (λ (at : ℕ). record { at = at; port = Some port; expr = connected }) (ap place_of e1)))
          (IsLink.named_link dot word opening us closing port connected h1 h2 h3 s4 h5),
    )

  -- An ordered link, by the token that stands after it.
  ordered_by : (ts front left : List Tok) (connected : Option Expr) (after : Tok) (later : List Tok) → ts ≡ front ++ left → Optional SpellsExpr front connected → left ≡ after ∷ later
      → IsOrderedLink after front (record { at = place_of ts; port = None; expr = connected })
  ordered_by ts front left None after later is s next =
      let at : after.at ≡ place_of ts = sym (ap place_of (is ∙ ap (λ (xs : List Tok). xs ++ left) s ∙ next)) in
      subst (λ (xs : List Tok). IsOrderedLink after xs (record { at = place_of ts; port = None; expr = None })) (sym s)
      (subst (λ (place : ℕ). IsOrderedLink after [] (record { at = place; port = None; expr = None })) at IsOrderedLink.blank)
  ordered_by ts front left (Some one) after later is s next =
      let at : place_of front ≡ place_of ts = sym (place_front front left (expr_begins front one s)) ∙ ap place_of (sym is) in
      subst (λ (place : ℕ). IsOrderedLink after front (record { at = place; port = None; expr = Some one })) at (IsOrderedLink.connected front one s)

  abbrev OrderedTook : List Tok → Link → List Tok → Type 0
  OrderedTook ts link left = (front : List Tok) × (ts ≡ front ++ left) × ((after : Tok) (later : List Tok) → left ≡ after ∷ later → IsOrderedLink after front link)

  ordered_took : (depth : ℕ) (ts : List Tok) (link : Link) (left : List Tok) → ordered_link depth ts ≡ Ok (link, left) → OrderedTook ts link left
  unfolding ordered_link
  ordered_took depth ts link left e = do
    (connected, rest, was, m) ← then_took (connection depth ts) _ link left e
    (front, is, s) ← connection_sound depth ts connected rest was
    same ← left_is m
    (
      front,
      is ∙ ap (λ (xs : List Tok). front ++ xs) (sym same),
      λ after later next. subst (λ (l : Link). IsOrderedLink after front l) (sym (found_is m)) (ordered_by ts front rest connected after later is s (sym same ∙ next)),
    )

  abbrev More : ℕ → ℕ → Type 0
  More depth turns = (found : List Link) (link : Link) (front ts : List Tok) (all_of : List Link) (closing : Tok) (rest : List Tok) → ((after : Tok) (later : List Tok) → ts ≡ after ∷ later → IsOrderedLink after front link)
      → loop_from (sees (codes ",")) (one_more_after_comma (ordered_link depth)) turns (found ++ link ∷ []) ts ≡ Ok (all_of, closing ∷ rest) → Is (codes ")") closing
      → (us : List Tok) × (xs : List Link) × (ts ≡ us ++ rest) × (all_of ≡ found ++ link ∷ xs) × AreOrderedLinks (front ++ us) (link ∷ xs)

  more_step : (depth turns : ℕ) → More depth turns → More depth (suc turns)
  unfolding loop_from one_more_after_comma one_more
  more_step depth turns more found link front ts all_of closing rest s e closes = by (sees (codes ",") ts) refl
    where
      by : (b : Bool) → sees (codes ",") ts ≡ b → (us : List Tok) × (xs : List Link) × (ts ≡ us ++ rest) × (all_of ≡ found ++ link ∷ xs) × AreOrderedLinks (front ++ us) (link ∷ xs)
      by false h =
          let ends = rw h at e in
          let is : ts ≡ closing ∷ rest = sym (left_is ends) in
          (closing ∷ [], [], is, found_is ends, AreOrderedLinks.last front closing link closes (s closing rest is))
      by true h = do
        (state, left, was, next) ← then_took (one_more_after_comma (ordered_link depth) (found ++ link ∷ []) ts) (loop_from (sees (codes ",")) (one_more_after_comma (ordered_link depth)) turns) all_of (closing ∷ rest) (rw h at e)
        (comma, ts1, e1, is, m) ← mark_took (codes ",") _ ts state left was
        (other, ts2, was2, m2) ← then_took (ordered_link depth ts1) _ state left m
        (second, e2, s2) ← ordered_took depth ts1 other ts2 was2
        same ← left_is m2
        step ← subst (λ (state : List Link). loop_from (sees (codes ",")) (one_more_after_comma (ordered_link depth)) turns state left ≡ Ok (all_of, closing ∷ rest)) (found_is m2) next
        (us, xs, e3, all, spelled) ← more (found ++ link ∷ []) other second left all_of closing rest (λ after later is. s2 after later (sym same ∙ is)) step closes
        (
          comma ∷ (second ++ us),
          other ∷ xs,
          e1 ∙ ap (λ (ys : List Tok). comma ∷ ys) (e2 ∙ ap (λ (ys : List Tok). second ++ ys) (sym same ∙ e3) ∙ sym (append_assoc second us rest)),
          all ∙ append_assoc found (link ∷ []) (other ∷ xs),
          AreOrderedLinks.next front comma (second ++ us) link (other ∷ xs) is (s comma ts1 e1) spelled,
        )

  all_more : (depth turns : ℕ) → More depth turns
  unfolding loop_from
  all_more depth zero found link front ts all_of closing rest s e closes = cc
  all_more depth (suc turns) found link front ts all_of closing rest s e closes = more_step depth turns (all_more depth turns) found link front ts all_of closing rest s e closes

  -- Ordered links with the parenthesis after them.
  ordered_links_took : (depth : ℕ) (ts : List Tok) (found : List Link) (closing : Tok) (rest : List Tok) → separated (ordered_link depth) ts ≡ Ok (found, closing ∷ rest) → Is (codes ")") closing
      → (front : List Tok) × (ts ≡ front ++ rest) × AreOrderedLinks front found
  unfolding separated loop one_more
  ordered_links_took depth ts found closing rest e closes = do
    (first, left, was, next) ← then_took (one_more (ordered_link depth) [] ts) (loop (sees (codes ",")) (one_more_after_comma (ordered_link depth))) found (closing ∷ rest) e
    (link, ts1, was1, m1) ← then_took (ordered_link depth ts) _ first left was
    (front, e1, s1) ← ordered_took depth ts link ts1 was1
    same ← left_is m1
    step ← subst (λ (state : List Link). loop_from (sees (codes ",")) (one_more_after_comma (ordered_link depth)) (suc (length left)) state left ≡ Ok (found, closing ∷ rest)) (found_is m1) next
    (us, xs, e2, all, spelled) ← all_more depth (suc (length left)) [] link front left found closing rest (λ after later is. s1 after later (sym same ∙ is)) step closes
    (front ++ us, e1 ∙ ap (λ (ys : List Tok). front ++ ys) (sym same ∙ e2) ∙ sym (append_assoc front us rest), subst (λ (ys : List Link). AreOrderedLinks (front ++ us) ys) (sym all) spelled)

  no_links : {ts : List Tok} {found : List Link} → AreOrderedLinks ts found → found ≡ [] → ⊥
  no_links (AreOrderedLinks.last ts closing link h s) e = cc
  no_links (AreOrderedLinks.next ts comma more link others h s rest) e = cc

  -- Tokens that do not begin with a parenthesis are no lone blank.
  not_lone : {ts : List Tok} {found : List Link} → AreOrderedLinks ts found → (rest : List Tok) → sees (codes ")") (ts ++ rest) ≡ false → IsLoneBlank found → ⊥
  not_lone (AreOrderedLinks.last ts closing link h (IsOrderedLink.blank)) rest unseen lone = (let seen = simp h at unseen in cc)
  not_lone (AreOrderedLinks.last ts closing link h (IsOrderedLink.connected us one s)) rest unseen lone = cc
  not_lone (AreOrderedLinks.next ts comma more link (second ∷ links) h s others) rest unseen lone = lone
  not_lone (AreOrderedLinks.next ts comma more link [] h s others) rest unseen lone = no_links others refl

  links_took : (depth : ℕ) (ts : List Tok) (found : List Link) (closing : Tok) (rest : List Tok) → links depth ts ≡ Ok (found, closing ∷ rest) → Is (codes ")") closing
      → (front : List Tok) × (ts ≡ front ++ rest) × AreLinks front found
  unfolding links
  links_took depth ts found closing rest e closes = by (sees (codes ")") ts) (sees (codes ".") ts) refl refl
    where
      by : (b c : Bool) → sees (codes ")") ts ≡ b → sees (codes ".") ts ≡ c → (front : List Tok) × (ts ≡ front ++ rest) × AreLinks front found
      by true c h g =
          let ends = rw h at e in
          (closing ∷ [], sym (left_is ends), subst (λ (xs : List Link). AreLinks (closing ∷ []) xs) (sym (found_is ends)) (AreLinks.none closing closes))
      by false true h g = do
        (us, is, s) ← separated_sound (named_link depth) IsLink (named_link_sound depth) ts found (closing ∷ rest) (rw (h, g) at e)
        (us ++ closing ∷ [], is ∙ sym (one_part us closing rest), AreLinks.named us closing found s closes)
      by false false h g = do
        (front, is, s) ← ordered_links_took depth ts found closing rest (rw (h, g) at e) closes
        (front, is, AreLinks.ordered front found s (not_lone s rest (ap (sees (codes ")")) (sym is) ∙ h)))

  pub instance_sound : (depth : ℕ) (definition : List ℕ) → Sound (instance depth definition) (IsInstance definition)
  unfolding instance
  instance_sound depth definition ts item rest e = do
    (text, ts1, was1, m1) ← then_took (name ts) _ item rest e
    (word, e1, h1) ← name_took ts text ts1 was1
    (opening, ts2, e2, h2, m2) ← mark_took (codes "(") _ ts1 item rest m1
    (found, ts3, was3, m3) ← then_took (links depth ts2) _ item rest m2
    (closing, ts4, e4, h4, m4) ← mark_took (codes ")") _ ts3 item rest m3
    (us, e3, s3) ← links_took depth ts2 found closing ts4 (was3 ∙ ap (λ (xs : List Tok). Ok (found, xs)) e4) h4
    (
      word ∷ opening ∷ us,
      (cc (left_is m4)),
      subst (λ (i : Item). IsInstance definition (word ∷ opening ∷ us) i) (sym (found_is m4 ∙ ap (λ (at : ℕ). Instance at definition text found) (ap place_of e1)))
          (IsInstance.instance word opening us text found h1 h2 s3),
    )

  module _ (left_sound : (depth : ℕ) → Sound (left depth) SpellsLeft) where
    pub input_gate_sound : (depth : ℕ) (kind : GateKind) → Sound (input_gate depth kind) (IsInputGate kind)
    unfolding input_gate
    input_gate_sound depth kind ts item rest e = do
      (named, ts1, was1, m1) ← then_took (title ts) _ item rest e
      (ns, e1, s1) ← title_sound ts named ts1 was1
      (opening, ts2, e2, h2, m2) ← mark_took (codes "(") _ ts1 item rest m1
      (out, ts3, was3, m3) ← then_took (left depth ts2) _ item rest m2
      (os, e3, s3) ← left_sound depth ts2 out ts3 was3
      (comma, ts4, e4, h4, m4) ← mark_took (codes ",") _ ts3 item rest m3
      (ins, ts5, was5, m5) ← then_took (separated (expr depth) ts4) _ item rest m4
      (is, e5, s5) ← separated_sound (expr depth) SpellsExpr (expr_sound depth) ts4 ins ts5 was5
      (closing, ts6, e6, h6, m6) ← mark_took (codes ")") _ ts5 item rest m5
      at ← ap place_of (e1 ∙ ap (λ (xs : List Tok). ns ++ xs) e2) ∙ place_before ns opening ts2
      (
        gate_tokens ns opening os comma is closing,
        (cc (left_is m6, three_parts ns os is opening comma closing rest)),
        subst (λ (i : Item). IsInputGate kind (gate_tokens ns opening os comma is closing) i) (sym (found_is m6 ∙ ap (λ (place : ℕ). Gate place kind named (out ∷ []) ins) at))
            (IsInputGate.gate ns opening os comma is closing named out ins s1 h2 s3 h4 s5 h6),
      )

    pub output_took : (depth : ℕ) (ts : List Tok) (out : Left) (rest : List Tok) → output depth ts ≡ Ok (out, rest) → (os : List Tok) × (comma : Tok) × (ts ≡ os ++ comma ∷ rest) × SpellsLeft os out × Is (codes ",") comma
    unfolding output
    output_took depth ts out rest e = do
      (found, ts1, was1, m1) ← then_took (left depth ts) _ out rest e
      (os, e1, s1) ← left_sound depth ts found ts1 was1
      (comma, ts2, e2, h2, m2) ← mark_took (codes ",") _ ts1 out rest m1
      (os, comma, e1 ∙ ap (λ (xs : List Tok). os ++ xs) (e2 ∙ ap (λ (xs : List Tok). comma ∷ xs) (sym (left_is m2))), subst (λ (l : Left). SpellsLeft os l) (sym (found_is m2)) s1, h2)

    abbrev Spelled : List Tok → List Left → List Tok → Type 0
    Spelled ts xs rest = (us : List Tok) × (comma : Tok) × (ts ≡ us ++ comma ∷ rest) × Commas SpellsLeft us xs × Is (codes ",") comma

    abbrev Outputs : ℕ → ℕ → Type 0
    Outputs depth turns = (found : List Left) (out : Left) (front : List Tok) (comma : Tok) (ts : List Tok) (all_of : List Left) (rest : List Tok) → SpellsLeft front out → Is (codes ",") comma
        → loop_from (is_output depth) (one_more (output depth)) turns (found ++ out ∷ []) ts ≡ Ok (all_of, rest)
        → (xs : List Left) × (all_of ≡ found ++ xs) × Spelled (front ++ comma ∷ ts) xs rest

    outputs_step : (depth turns : ℕ) → Outputs depth turns → Outputs depth (suc turns)
    unfolding loop_from one_more
    outputs_step depth turns more found out front comma ts all_of rest s is e = by (is_output depth ts) refl
      where
        by : (b : Bool) → is_output depth ts ≡ b → (xs : List Left) × (all_of ≡ found ++ xs) × Spelled (front ++ comma ∷ ts) xs rest
        by false h =
            let ends = rw h at e in
            (out ∷ [], found_is ends, (front, comma, ap (λ (xs : List Tok). front ++ comma ∷ xs) (sym (left_is ends)), Commas.last front out s, is))
        by true h = do
          (state, left, was, next) ← then_took (one_more (output depth) (found ++ out ∷ []) ts) (loop_from (is_output depth) (one_more (output depth)) turns) all_of rest (rw h at e)
          (other, ts1, was1, m1) ← then_took (output depth ts) _ state left was
          (os, second, e1, s1, h1) ← output_took depth ts other ts1 was1
          same ← left_is m1
          step ← subst (λ (state : List Left). loop_from (is_output depth) (one_more (output depth)) turns state left ≡ Ok (all_of, rest)) (found_is m1) next
          (xs, all, (us, last, e2, spelled, h2)) ← more (found ++ out ∷ []) other os second left all_of rest s1 h1 step
          (
            out ∷ xs,
            all ∙ append_assoc found (out ∷ []) xs,
            (
              front ++ comma ∷ us,
              last,
              ap (λ (ys : List Tok). front ++ comma ∷ ys) (e1 ∙ ap (λ (ys : List Tok). os ++ second ∷ ys) (sym same) ∙ e2) ∙ sym (append_assoc front (comma ∷ us) (last ∷ rest)),
              Commas.next front comma us out xs s is spelled,
              h2,
            ),
          )

    all_outputs : (depth turns : ℕ) → Outputs depth turns
    unfolding loop_from
    all_outputs depth zero found out front comma ts all_of rest s is e = cc
    all_outputs depth (suc turns) found out front comma ts all_of rest s is e = outputs_step depth turns (all_outputs depth turns) found out front comma ts all_of rest s is e

    outputs_took : (depth : ℕ) (ts : List Tok) (found : List Left) (rest : List Tok) → outputs depth ts ≡ Ok (found, rest) → Spelled ts found rest
    unfolding outputs loop
    outputs_took depth ts found rest e = do
      (out, left, was, next) ← then_took (output depth ts) _ found rest e
      (os, comma, e1, s1, h1) ← output_took depth ts out left was
      (xs, all, (us, last, e2, spelled, h2)) ← all_outputs depth (suc (length left)) [] out os comma left found rest s1 h1 next
      (us, last, e1 ∙ e2, subst (λ (ys : List Left). Commas SpellsLeft us ys) (sym all) spelled, h2)

    pub output_gate_sound : (depth : ℕ) (kind : GateKind) → Sound (output_gate depth kind) (IsOutputGate kind)
    unfolding output_gate
    output_gate_sound depth kind ts item rest e = do
      (named, ts1, was1, m1) ← then_took (title ts) _ item rest e
      (ns, e1, s1) ← title_sound ts named ts1 was1
      (opening, ts2, e2, h2, m2) ← mark_took (codes "(") _ ts1 item rest m1
      (outs, ts3, was3, m3) ← then_took (outputs depth ts2) _ item rest m2
      (os, comma, e3, s3, h4) ← outputs_took depth ts2 outs ts3 was3
      (input, ts5, was5, m5) ← then_took (expr depth ts3) _ item rest m3
      (is, e5, s5) ← expr_sound depth ts3 input ts5 was5
      (closing, ts6, e6, h6, m6) ← mark_took (codes ")") _ ts5 item rest m5
      at ← ap place_of (e1 ∙ ap (λ (xs : List Tok). ns ++ xs) e2) ∙ place_before ns opening ts2
      (
        gate_tokens ns opening os comma is closing,
        (cc (left_is m6, three_parts ns os is opening comma closing rest)),
        subst (λ (i : Item). IsOutputGate kind (gate_tokens ns opening os comma is closing) i) (sym (found_is m6 ∙ ap (λ (place : ℕ). Gate place kind named outs (input ∷ [])) at))
            (IsOutputGate.gate ns opening os comma is closing named outs input s1 h2 s3 h4 s5 h6),
      )

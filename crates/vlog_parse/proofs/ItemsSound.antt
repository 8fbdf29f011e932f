-- What the rules of items read is spelled by the tokens that they take.
use Rattle.std.proofs.Common.{◌≡◌, ℕ, ◌||◌, Bool, true, false, List, [], ◌∷◌, ◌++◌, codes, Option, Some, None, Ok, bytes_eq, refl, sym, ap, ◌∙◌, subst, append_assoc}
use Rattle.std.proofs.lemmas.Slice.Eq.{bytes_eq-Decides}
use Rattle.vlog_tokens.specs.Toks.{Tok}
use Rattle.vlog_tree.specs.declared.expr.Expr.TheVariants as variant
use Rattle.vlog_tree.specs.declared.item.GateKind.{GateKind}
use Rattle.vlog_tree.specs.declared.item.Item.{Item}
use Rattle.vlog_tree.specs.declared.item.Item.TheVariants.{Assign, Always, Initial}
use Rattle.vlog_tree.specs.Spelling.Exprs.{SpellsExpr}
use Rattle.vlog_tree.specs.Spelling.Gates as tables
use Rattle.vlog_tree.specs.Spelling.Gates.{IsInputGate, IsInstance, IsOutputGate}
use Rattle.vlog_tree.specs.Spelling.Items.{IsAssign, IsItem}
use Rattle.vlog_tree.specs.Spelling.Lefts.{SpellsLeft}
use Rattle.vlog_tree.specs.Spelling.Numbers.{IsNumber}
use Rattle.vlog_tree.specs.Spelling.Parts.{IsAnyDelay, place_of}
use Rattle.vlog_tree.specs.Spelling.Stmts.{SpellsStmt}
use Rattle.vlog_parse.specs.Declarations.{port_items, reg_items, wire_items}
use Rattle.vlog_parse.specs.Delays.{any_delay}
use Rattle.vlog_parse.specs.Exprs.{expr}
use Rattle.vlog_parse.specs.Gates.{input_gate, instance, output_gate}
use Rattle.vlog_parse.specs.Items.{always, assign, assigns, gates_by, gates_or_instances, initial, input_gates, instances, item, items_by, other_items, output_gates}
use Rattle.vlog_parse.specs.Looks.{any_token}
use Rattle.vlog_parse.specs.Lefts.{left}
use Rattle.vlog_parse.specs.Numbers.{number}
use Rattle.vlog_parse.specs.Reads.{next_terminal, separated}
use Rattle.vlog_parse.specs.Stmts.{stmt}
use Rattle.vlog_parse.specs.Terminals.{name}
use Rattle.vlog_parse.proofs.Fronts.{left_begins, number_begins, place_front}
use Rattle.vlog_parse.proofs.GatesSound.{input_gate_sound, instance_sound, one_part, output_gate_sound}
use Rattle.vlog_parse.proofs.Lists.{separated_sound}
use Rattle.vlog_parse.proofs.Rules.{◌>>=◌, Sound, Took, found_is, left_is, mark_took, take_took, then_took}
use Rattle.vlog_parse.proofs.Terminals.{name_took}

text_is : (found text : List ℕ) → bytes_eq found text ≡ true → found ≡ text
text_is found text h = (bytes_eq-Decides found text).0 h

token_took : (ts : List Tok) (tok : Tok) (rest : List Tok) → any_token ts ≡ Ok (tok, rest) → ts ≡ tok ∷ rest
unfolding any_token
token_took ts tok rest e = do
  (first, is, same) ← take_took Some ts tok rest e
  let this : first ≡ tok = cc in is ∙ ap (λ (t : Tok). t ∷ rest) this

-- two parts and the semicolon
pub two_parts : (us vs : List Tok) (semi : Tok) (rest : List Tok) → (us ++ (vs ++ semi ∷ [])) ++ rest ≡ us ++ (vs ++ semi ∷ rest)
two_parts us vs semi rest = simp append_assoc

-- The rules that these are made of are sound.
module _ (expr_sound : (depth : ℕ) → Sound (expr depth) SpellsExpr) (left_sound : (depth : ℕ) → Sound (left depth) SpellsLeft) (delay_sound : Sound any_delay (λ ts _. IsAnyDelay ts)) where
  assign_sound : (depth : ℕ) → Sound (assign depth) IsAssign
  unfolding assign
  assign_sound depth ts found rest e = do
    (target, ts1, was1, m1) ← then_took (left depth ts) _ found rest e
    (front, e1, s1) ← left_sound depth ts target ts1 was1
    (equals, ts2, e2, h2, m2) ← mark_took (codes "=") _ ts1 found rest m1
    (right, ts3, was3, m3) ← then_took (expr depth ts2) _ found rest m2
    (back, e3, s3) ← expr_sound depth ts2 right ts3 was3
    at ← ap place_of e1 ∙ place_front front ts1 (left_begins front target s1)
    (
      front ++ equals ∷ back,
      e1 ∙ ap (λ (xs : List Tok). front ++ xs) (e2 ∙ ap (λ (xs : List Tok). equals ∷ xs) (e3 ∙ ap (λ (xs : List Tok). back ++ xs) (sym (left_is m3)))) ∙ sym (append_assoc front (equals ∷ back) rest),
      subst (λ (i : Item). IsAssign (front ++ equals ∷ back) i) (sym (found_is m3 ∙ ap (λ (place : ℕ). Assign place target right) at)) (IsAssign.assign front equals back target right s1 h2 s3),
    )

  assigns_sound : (depth : ℕ) → Sound (assigns depth) IsItem
  unfolding assigns
  assigns_sound depth ts items rest e = do
    (word, ts1, e1, h1, m1) ← mark_took (codes "assign") _ ts items rest e
    (none, ts2, was2, m2) ← then_took (any_delay ts1) _ items rest m1
    (ds, e2, s2) ← delay_sound ts1 none ts2 was2
    (found, ts3, was3, m3) ← then_took (separated (assign depth) ts2) _ items rest m2
    (us, e3, s3) ← separated_sound (assign depth) IsAssign (assign_sound depth) ts2 found ts3 was3
    (semi, ts4, e4, h4, m4) ← mark_took (codes ";") _ ts3 items rest m3
    (
      word ∷ (ds ++ (us ++ semi ∷ [])),
      (cc (left_is m4, two_parts ds us semi rest)),
      subst (λ (xs : List Item). IsItem (word ∷ (ds ++ (us ++ semi ∷ []))) xs) (sym (found_is m4)) (IsItem.assign word ds us semi found h1 s2 s3 h4),
    )

  input_gates_sound : (depth : ℕ) (kind : GateKind) (ts : List Tok) (items : List Item) (rest : List Tok) → tables.input_gate (next_terminal ts) ≡ Some kind → input_gates depth kind ts ≡ Ok (items, rest) → Took IsItem ts items rest
  unfolding input_gates
  input_gates_sound depth kind ts items rest h e = do
    (word, ts1, was1, m1) ← then_took (any_token ts) _ items rest e
    e1 ← token_took ts word ts1 was1
    (none, ts2, was2, m2) ← then_took (any_delay ts1) _ items rest m1
    (ds, e2, s2) ← delay_sound ts1 none ts2 was2
    (found, ts3, was3, m3) ← then_took (separated (input_gate depth kind) ts2) _ items rest m2
    (us, e3, s3) ← separated_sound (input_gate depth kind) (IsInputGate kind) (input_gate_sound expr_sound left_sound depth kind) ts2 found ts3 was3
    (semi, ts4, e4, h4, m4) ← mark_took (codes ";") _ ts3 items rest m3
    h1 ← subst (λ (xs : List Tok). tables.input_gate (next_terminal xs) ≡ Some kind) e1 h
    (
      word ∷ (ds ++ (us ++ semi ∷ [])),
      (cc (left_is m4, two_parts ds us semi rest)),
      subst (λ (xs : List Item). IsItem (word ∷ (ds ++ (us ++ semi ∷ []))) xs) (sym (found_is m4)) (IsItem.input_gates word ds us semi kind found h1 s2 s3 h4),
    )

  output_gates_sound : (depth : ℕ) (kind : GateKind) (ts : List Tok) (items : List Item) (rest : List Tok) → tables.output_gate (next_terminal ts) ≡ Some kind → output_gates depth kind ts ≡ Ok (items, rest) → Took IsItem ts items rest
  unfolding output_gates
  output_gates_sound depth kind ts items rest h e = do
    (word, ts1, was1, m1) ← then_took (any_token ts) _ items rest e
    e1 ← token_took ts word ts1 was1
    (none, ts2, was2, m2) ← then_took (any_delay ts1) _ items rest m1
    (ds, e2, s2) ← delay_sound ts1 none ts2 was2
    (found, ts3, was3, m3) ← then_took (separated (output_gate depth kind) ts2) _ items rest m2
    (us, e3, s3) ← separated_sound (output_gate depth kind) (IsOutputGate kind) (output_gate_sound expr_sound left_sound depth kind) ts2 found ts3 was3
    (semi, ts4, e4, h4, m4) ← mark_took (codes ";") _ ts3 items rest m3
    h1 ← subst (λ (xs : List Tok). tables.output_gate (next_terminal xs) ≡ Some kind) e1 h
    (
      word ∷ (ds ++ (us ++ semi ∷ [])),
      (cc (left_is m4, two_parts ds us semi rest)),
      subst (λ (xs : List Item). IsItem (word ∷ (ds ++ (us ++ semi ∷ []))) xs) (sym (found_is m4)) (IsItem.output_gates word ds us semi kind found h1 s2 s3 h4),
    )

  instances_sound : (depth : ℕ) → Sound (instances depth) IsItem
  unfolding instances
  instances_sound depth ts items rest e = do
    (definition, ts1, was1, m1) ← then_took (name ts) _ items rest e
    (word, e1, h1) ← name_took ts definition ts1 was1
    (found, ts3, was3, m3) ← then_took (separated (instance depth definition) ts1) _ items rest m1
    (us, e3, s3) ← separated_sound (instance depth definition) (IsInstance definition) (instance_sound expr_sound depth definition) ts1 found ts3 was3
    (semi, ts4, e4, h4, m4) ← mark_took (codes ";") _ ts3 items rest m3
    (
      word ∷ (us ++ semi ∷ []),
      (cc (left_is m4, one_part us semi rest)),
      subst (λ (xs : List Item). IsItem (word ∷ (us ++ semi ∷ [])) xs) (sym (found_is m4)) (IsItem.instances word us semi definition found h1 s3 h4),
    )

  gates_or_instances_sound : (depth : ℕ) (ts : List Tok) (items : List Item) (rest : List Tok) → gates_or_instances depth (next_terminal ts) ts ≡ Ok (items, rest) → Took IsItem ts items rest
  unfolding gates_or_instances
  gates_or_instances_sound depth ts items rest e = by (tables.input_gate (next_terminal ts)) (tables.output_gate (next_terminal ts)) refl refl e
    where
      by : (one other : Option GateKind) → tables.input_gate (next_terminal ts) ≡ one → tables.output_gate (next_terminal ts) ≡ other → gates_by depth one other ts ≡ Ok (items, rest) → Took IsItem ts items rest
      by (Some kind) other h k e = input_gates_sound depth kind ts items rest h e
      by None (Some kind) h k e = output_gates_sound depth kind ts items rest k e
      by None None h k e = instances_sound depth ts items rest e

  module _ (number_sound : Sound number IsNumber) (stmt_sound : (depth : ℕ) → Sound (stmt depth) SpellsStmt) where
    always_sound : (depth : ℕ) → Sound (always depth) IsItem
    unfolding always
    always_sound depth ts items rest e = do
      (word, ts1, e1, h1, m1) ← mark_took (codes "always") _ ts items rest e
      (event, ts2, e2, h2, m2) ← mark_took (codes "@") _ ts1 items rest m1
      (opening, ts3, e3, h3, m3) ← mark_took (codes "(") _ ts2 items rest m2
      (edge, ts4, e4, h4, m4) ← mark_took (codes "posedge") _ ts3 items rest m3
      (clock, ts5, was5, m5) ← then_took (name ts4) _ items rest m4
      (tok, e5, h5) ← name_took ts4 clock ts5 was5
      (closing, ts6, e6, h6, m6) ← mark_took (codes ")") _ ts5 items rest m5
      (body, ts7, was7, m7) ← then_took (stmt depth ts6) _ items rest m6
      (us, e7, s7) ← stmt_sound depth ts6 body ts7 was7
      (
        word ∷ event ∷ opening ∷ edge ∷ tok ∷ closing ∷ us,
        (cc (left_is m7)),
        subst (λ (xs : List Item). IsItem (word ∷ event ∷ opening ∷ edge ∷ tok ∷ closing ∷ us) xs) (sym (found_is m7 ∙ ap (λ (at : ℕ). Always at clock body ∷ []) (ap place_of e1)))
            (IsItem.always word event opening edge tok closing us clock body h1 h2 h3 h4 h5 h6 s7),
      )

    initial_sound : Sound initial IsItem
    unfolding initial
    initial_sound ts items rest e = do
      (word, ts1, e1, h1, m1) ← mark_took (codes "initial") _ ts items rest e
      (text, ts2, was2, m2) ← then_took (name ts1) _ items rest m1
      (tok, e2, h2) ← name_took ts1 text ts2 was2
      (equals, ts3, e3, h3, m3) ← mark_took (codes "=") _ ts2 items rest m2
      (bits, ts4, was4, m4) ← then_took (number ts3) _ items rest m3
      (us, e4, s4) ← number_sound ts3 bits ts4 was4
      (semi, ts5, e5, h5, m5) ← mark_took (codes ";") _ ts4 items rest m4
      place ← ap place_of e4 ∙ place_front us ts4 (number_begins us bits s4)
      (
        word ∷ tok ∷ equals ∷ (us ++ semi ∷ []),
        (cc (left_is m5, one_part us semi rest)),
        subst (λ (xs : List Item). IsItem (word ∷ tok ∷ equals ∷ (us ++ semi ∷ [])) xs)
            (sym (found_is m5 ∙ ap (λ (at : ℕ). Initial at text (variant.Number (place_of ts3) bits) ∷ []) (ap place_of e1) ∙ ap (λ (at : ℕ). Initial word.at text (variant.Number at bits) ∷ []) place))
            (IsItem.initial word tok equals us semi text bits h1 h2 h3 s4 h5),
      )

    other_items_sound : (depth : ℕ) (ts : List Tok) (items : List Item) (rest : List Tok) → other_items depth (next_terminal ts) ts ≡ Ok (items, rest) → Took IsItem ts items rest
    unfolding other_items
    other_items_sound depth ts items rest e = by (bytes_eq (next_terminal ts) (codes "assign")) (bytes_eq (next_terminal ts) (codes "always")) (bytes_eq (next_terminal ts) (codes "initial")) refl refl refl
      where
        by : (a b c : Bool) → bytes_eq (next_terminal ts) (codes "assign") ≡ a → bytes_eq (next_terminal ts) (codes "always") ≡ b → bytes_eq (next_terminal ts) (codes "initial") ≡ c → Took IsItem ts items rest
        by true b c h k l = assigns_sound depth ts items rest (rw h at e)
        by false true c h k l = always_sound depth ts items rest (rw (h, k) at e)
        by false false true h k l = initial_sound ts items rest (rw (h, k, l) at e)
        by false false false h k l = gates_or_instances_sound depth ts items rest (rw (h, k, l) at e)

    -- What an item reads is an item, if what declarations read is.
    pub item_sound : Sound port_items IsItem → ((depth : ℕ) → Sound (wire_items depth) IsItem) → Sound reg_items IsItem → (depth : ℕ) → Sound (item depth) IsItem
    unfolding item items_by
    item_sound port_sound wire_sound reg_sound depth ts items rest e =
        by (bytes_eq (next_terminal ts) (codes "input") || bytes_eq (next_terminal ts) (codes "output")) (bytes_eq (next_terminal ts) (codes "wire")) (bytes_eq (next_terminal ts) (codes "reg")) refl refl refl
      where
        by : (a b c : Bool) → (bytes_eq (next_terminal ts) (codes "input") || bytes_eq (next_terminal ts) (codes "output")) ≡ a → bytes_eq (next_terminal ts) (codes "wire") ≡ b → bytes_eq (next_terminal ts) (codes "reg") ≡ c
            → Took IsItem ts items rest
        by true b c h k l = port_sound ts items rest (rw h at e)
        by false true c h k l = wire_sound depth ts items rest (rw (h, k) at e)
        by false false true h k l = reg_sound ts items rest (rw (h, k, l) at e)
        by false false false h k l = other_items_sound depth ts items rest (rw (h, k, l) at e)

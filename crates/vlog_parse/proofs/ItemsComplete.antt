-- Items that tokens spell are read.
use Rattle.std.proofs.Common.{◌≡◌, ◌≤◌, ℕ, zero, suc, ◌||◌, Bool, true, false, List, [], ◌∷◌, ◌++◌, length, codes, Option, Some, None, Ok, bytes_eq, refl, sym, ap, ◌∙◌, subst, append_assoc, length-append, arith}
use Rattle.std.specs.List.{flat_map}
use Rattle.std.proofs.lemmas.Slice.Eq.{bytes_eq-Decides}
use Rattle.bm_base.specs.declared.range.Range.{Range}
use Rattle.vlog_tokens.specs.Toks.{Tok}
use Rattle.vlog_tokens.specs.declared.token.TokenKind.{TokenKind}
use Rattle.vlog_tokens.specs.declared.token.TokenKind.TheVariants.{Word, Escaped, System, Decimal, Based, Text, Mark}
use Rattle.vlog_tree.specs.declared.item.Dir.{Dir}
use Rattle.vlog_tree.specs.declared.item.GateKind.{GateKind}
use Rattle.vlog_tree.specs.declared.expr.Expr.TheVariants as variant
use Rattle.vlog_tree.specs.declared.item.Item.{Item}
use Rattle.vlog_tree.specs.declared.item.Item.TheVariants.{Always, Initial}
use Rattle.vlog_tree.specs.declared.item.NetKind.TheVariants as kinds
use Rattle.vlog_tree.specs.declared.left.Left.{Left}
use Rattle.vlog_tree.specs.declared.stmt.Stmt.{Stmt}
use Rattle.vlog_tree.specs.Spelling.Declarations as declarations
use Rattle.vlog_tree.specs.Spelling.Declarations.{Declared, IsPortShape, IsRegister, IsWire, Shape}
use Rattle.vlog_tree.specs.Spelling.Exprs.{SpellsExpr}
use Rattle.vlog_tree.specs.Spelling.Gates as tables
use Rattle.vlog_tree.specs.Spelling.Gates.{IsInputGate, IsInstance, IsOutputGate}
use Rattle.vlog_tree.specs.Spelling.Items.{IsAssign, IsItem}
use Rattle.vlog_tree.specs.Spelling.Lefts.{IsLeft, SpellsLeft, Target}
use Rattle.vlog_tree.specs.Spelling.Numbers.{IsNumber}
use Rattle.vlog_tree.specs.Spelling.Parts.{Commas, Is, IsAnyDelay, IsName, IsNameBy, IsRange, One, Optional, place_of, terminal, terminal_by}
use Rattle.vlog_tree.specs.Spelling.Stmts.{SpellsStmt}
use Rattle.vlog_parse.specs.Declarations.{port_items, reg_items, wire_items}
use Rattle.vlog_parse.specs.Delays.{any_delay}
use Rattle.vlog_parse.specs.Exprs.{expr}
use Rattle.vlog_parse.specs.Gates.{input_gate, instance, output_gate}
use Rattle.vlog_parse.specs.Items.{always, assign, assigns, gates_by, gates_or_instances, initial, input_gates, instances, item, items_by, other_items, output_gates}
use Rattle.vlog_parse.specs.Looks.{any_token}
use Rattle.vlog_parse.specs.Lefts.{left}
use Rattle.vlog_numbers.specs.Values.{is_based_kind, sees_based}
use Rattle.vlog_parse.specs.Numbers.{number}
use Rattle.vlog_parse.specs.Reads.{next_terminal, sees}
use Rattle.vlog_parse.specs.Stmts.{stmt}
use Rattle.vlog_parse.proofs.Fronts.{left_begins, number_begins, place_front}
use Rattle.vlog_parse.proofs.GatesComplete.{first_fits, input_gate_complete, instance_complete, output_gate_complete, second_fits}
use Rattle.vlog_parse.proofs.GatesSound.{one_part}
use Rattle.vlog_parse.proofs.ItemsSound.{two_parts}
use Rattle.vlog_parse.proofs.Lists.{separated_complete}
use Rattle.vlog_parse.proofs.Rules.{Complete, Sound, expects, sees_other, takes}
use Rattle.vlog_parse.proofs.Terminals.{name_free, names}

-- ---- what a delay may stand before

-- Neither a delay nor the digits of a number come next.
abbrev pub AfterDelay : List Tok → Type 0
AfterDelay rest = (sees (codes "#") rest ≡ false) × (sees_based rest ≡ false)

not_based_by : (kind : TokenKind) (text : List ℕ) (byte : ℕ) (bytes : List ℕ) → terminal_by kind text ≡ byte ∷ bytes → is_based_kind kind ≡ false
not_based_by Word text byte bytes h = refl
not_based_by Escaped text byte bytes h = refl
not_based_by System text byte bytes h = refl
not_based_by Decimal text byte bytes h = refl
not_based_by Based text byte bytes h = cc
not_based_by Text text byte bytes h = refl
not_based_by Mark text byte bytes h = refl

-- A reserved word or a mark is no based token.
not_based : (byte : ℕ) (bytes : List ℕ) (tok : Tok) (rest : List Tok) → Is (byte ∷ bytes) tok → sees_based (tok ∷ rest) ≡ false
not_based byte bytes tok rest h = not_based_by tok.kind tok.text byte bytes h

name_not_based_by : (kind : TokenKind) (text name : List ℕ) → IsNameBy kind text name → is_based_kind kind ≡ false
name_not_based_by Word text name h = refl
name_not_based_by Escaped text name h = refl
name_not_based_by System text name h = absurd h
name_not_based_by Decimal text name h = absurd h
name_not_based_by Based text name h = absurd h
name_not_based_by Text text name h = absurd h
name_not_based_by Mark text name h = absurd h

name_after : (word : Tok) (name : List ℕ) (rest : List Tok) → IsName word name → AfterDelay (word ∷ rest)
name_after word name rest h = (sees_other [] (codes "#") word rest (name_free word name h) refl, name_not_based_by word.kind word.text name h)

title_after : (ns : List Tok) (name : Option (List ℕ)) (opening : Tok) (rest : List Tok) → Optional (One IsName) ns name → Is (codes "(") opening → AfterDelay (ns ++ opening ∷ rest)
title_after ns None opening rest same h = subst (λ (xs : List Tok). AfterDelay (xs ++ opening ∷ rest)) (sym same) (sees_other (codes "(") (codes "#") opening rest h refl, not_based 40 [] opening rest h)
title_after [] (Some name) opening rest s h = absurd s
title_after (word ∷ []) (Some name) opening rest s h = name_after word name (opening ∷ rest) s
title_after (word ∷ next ∷ more) (Some name) opening rest s h = absurd s

left_after_by : (depth : ℕ) (front : List Tok) (target : Left) (rest : List Tok) → IsLeft depth front target → AfterDelay (front ++ rest)
left_after_by zero front target rest s = absurd s
left_after_by (suc depth) _ _ rest (Target.name word ts text select h s) = name_after word text (ts ++ rest) h
left_after_by (suc depth) _ _ rest (Target.join opening closing ts parts h s g) = (sees_other (codes "{") (codes "#") opening ((ts ++ closing ∷ []) ++ rest) h refl, not_based 123 [] opening ((ts ++ closing ∷ []) ++ rest) h)

assign_after : (front : List Tok) (found : Item) (rest : List Tok) → IsAssign front found → AfterDelay (front ++ rest)
assign_after _ _ rest (IsAssign.assign front equals back target right (depth, s) h t) = rw (append_assoc front (equals ∷ back) rest) (left_after_by depth front target (equals ∷ (back ++ rest)) s)

input_gate_after : (kind : GateKind) (front : List Tok) (found : Item) (rest : List Tok) → IsInputGate kind front found → AfterDelay (front ++ rest)
input_gate_after kind _ _ rest (IsInputGate.gate ns opening os comma is closing named out inputs s1 h1 s2 h2 s3 h3) =
    subst AfterDelay (sym (append_assoc ns (opening ∷ (os ++ comma ∷ (is ++ closing ∷ []))) rest)) (title_after ns named opening ((os ++ comma ∷ (is ++ closing ∷ [])) ++ rest) s1 h1)

output_gate_after : (kind : GateKind) (front : List Tok) (found : Item) (rest : List Tok) → IsOutputGate kind front found → AfterDelay (front ++ rest)
output_gate_after kind _ _ rest (IsOutputGate.gate ns opening os comma is closing named outs input s1 h1 s2 h2 s3 h3) =
    subst AfterDelay (sym (append_assoc ns (opening ∷ (os ++ comma ∷ (is ++ closing ∷ []))) rest)) (title_after ns named opening ((os ++ comma ∷ (is ++ closing ∷ [])) ++ rest) s1 h1)

list_after : (Spelled : List Tok → Item → Type 0) → ((front : List Tok) (found : Item) (rest : List Tok) → Spelled front found → AfterDelay (front ++ rest))
    → {front : List Tok} {found : List Item} → Commas Spelled front found → (rest : List Tok) → AfterDelay (front ++ rest)
list_after Spelled after (Commas.last only a s) rest = after only a rest s
list_after Spelled after (Commas.next first comma more a others s h spelled) rest = subst AfterDelay (sym (append_assoc first (comma ∷ more) rest)) (after first a (comma ∷ (more ++ rest)) s)

-- ---- the word that an item begins with

token_read : (tok : Tok) (rest : List Tok) → any_token (tok ∷ rest) ≡ Ok (tok, rest)
unfolding any_token
token_read tok rest = takes Some tok tok rest refl

-- A text that a table has is none that it has not.
in_table : {A : Type 0} (table : List ℕ → Option A) (found text : List ℕ) (a : A) → table found ≡ Some a → ◌≡◌ {A = Option A} (table text) None → bytes_eq found text ≡ false
in_table {A} table found text a h none = by (bytes_eq found text) refl
  where
    by : (b : Bool) → bytes_eq found text ≡ b → bytes_eq found text ≡ false
    by false e = e
    by true e =
        let same : found ≡ text = (bytes_eq-Decides found text).0 e in
        let both : ◌≡◌ {A = Option A} (Some a) None = sym h ∙ ap table same ∙ none in
        cc

item_by : (depth : ℕ) (ts : List Tok) (text : List ℕ) → next_terminal ts ≡ text → item depth ts ≡ items_by depth text ts
unfolding item
item_by depth ts text h = ap (λ (t : List ℕ). items_by depth t ts) h

-- A text that is none of the words of declarations, assignments and processes.
record IsFree (text : List ℕ) : Type 0 where
  input : bytes_eq text (codes "input") ≡ false
  output : bytes_eq text (codes "output") ≡ false
  wire : bytes_eq text (codes "wire") ≡ false
  reg : bytes_eq text (codes "reg") ≡ false
  assigns : bytes_eq text (codes "assign") ≡ false
  process : bytes_eq text (codes "always") ≡ false
  start : bytes_eq text (codes "initial") ≡ false

free_items : (depth : ℕ) (ts : List Tok) (text : List ℕ) → IsFree text → items_by depth text ts ≡ gates_by depth (tables.input_gate text) (tables.output_gate text) ts
unfolding items_by other_items gates_or_instances
free_items depth ts text free = rw (free.input, free.output, free.wire, free.reg, free.assigns, free.process, free.start) refl

input_gate_free : (text : List ℕ) (kind : GateKind) → tables.input_gate text ≡ Some kind → IsFree text
input_gate_free text kind h = record {
  input = in_table tables.input_gate text (codes "input") kind h refl;
  output = in_table tables.input_gate text (codes "output") kind h refl;
  wire = in_table tables.input_gate text (codes "wire") kind h refl;
  reg = in_table tables.input_gate text (codes "reg") kind h refl;
  assigns = in_table tables.input_gate text (codes "assign") kind h refl;
  process = in_table tables.input_gate text (codes "always") kind h refl;
  start = in_table tables.input_gate text (codes "initial") kind h refl;
}

output_gate_free : (text : List ℕ) (kind : GateKind) → tables.output_gate text ≡ Some kind → IsFree text
output_gate_free text kind h = record {
  input = in_table tables.output_gate text (codes "input") kind h refl;
  output = in_table tables.output_gate text (codes "output") kind h refl;
  wire = in_table tables.output_gate text (codes "wire") kind h refl;
  reg = in_table tables.output_gate text (codes "reg") kind h refl;
  assigns = in_table tables.output_gate text (codes "assign") kind h refl;
  process = in_table tables.output_gate text (codes "always") kind h refl;
  start = in_table tables.output_gate text (codes "initial") kind h refl;
}

-- A gate is in one table only.
no_input_gate : (text : List ℕ) (kind : GateKind) → tables.output_gate text ≡ Some kind → ◌≡◌ {A = Option GateKind} (tables.input_gate text) None
no_input_gate text kind h =
    rw (
      in_table tables.output_gate text (codes "and") kind h refl,
      in_table tables.output_gate text (codes "nand") kind h refl,
      in_table tables.output_gate text (codes "or") kind h refl,
      in_table tables.output_gate text (codes "nor") kind h refl,
      in_table tables.output_gate text (codes "xor") kind h refl,
      in_table tables.output_gate text (codes "xnor") kind h refl,
    ) refl

input_gates_next : (depth : ℕ) (word : Tok) (rest : List Tok) (kind : GateKind) → tables.input_gate (terminal word) ≡ Some kind → item depth (word ∷ rest) ≡ input_gates depth kind (word ∷ rest)
input_gates_next depth word rest kind h =
    item_by depth (word ∷ rest) (terminal word) refl ∙ free_items depth (word ∷ rest) (terminal word) (input_gate_free (terminal word) kind h)
    ∙ ap (λ (found : Option GateKind). gates_by depth found (tables.output_gate (terminal word)) (word ∷ rest)) h

output_gates_next : (depth : ℕ) (word : Tok) (rest : List Tok) (kind : GateKind) → tables.output_gate (terminal word) ≡ Some kind → item depth (word ∷ rest) ≡ output_gates depth kind (word ∷ rest)
output_gates_next depth word rest kind h =
    item_by depth (word ∷ rest) (terminal word) refl ∙ free_items depth (word ∷ rest) (terminal word) (output_gate_free (terminal word) kind h)
    ∙ ap (λ (found : Option GateKind). gates_by depth found (tables.output_gate (terminal word)) (word ∷ rest)) (no_input_gate (terminal word) kind h)
    ∙ ap (λ (found : Option GateKind). gates_by depth None found (word ∷ rest)) h

directed : (text : List ℕ) (dir : Dir) → declarations.direction text ≡ Some dir → (bytes_eq text (codes "input") || bytes_eq text (codes "output")) ≡ true
directed text dir h = by (bytes_eq text (codes "input")) (bytes_eq text (codes "output")) refl refl
  where
    by : (a b : Bool) → bytes_eq text (codes "input") ≡ a → bytes_eq text (codes "output") ≡ b → (bytes_eq text (codes "input") || bytes_eq text (codes "output")) ≡ true
    by true b k l = rw k refl
    by false true k l = rw (k, l) refl
    by false false k l = (let nothing = rw (k, l) at h in cc)

port_items_by : (depth : ℕ) (ts : List Tok) (text : List ℕ) → (bytes_eq text (codes "input") || bytes_eq text (codes "output")) ≡ true → items_by depth text ts ≡ port_items ts
unfolding items_by
port_items_by depth ts text h = rw h refl

port_next : (depth : ℕ) (ss : List Tok) (shape : Shape) (rest : List Tok) → IsPortShape ss shape → item depth (ss ++ rest) ≡ port_items (ss ++ rest)
port_next depth _ _ rest (IsPortShape.port_shape word ks rs dir kind range h k r) =
    item_by depth (word ∷ ((ks ++ rs) ++ rest)) (terminal word) refl ∙ port_items_by depth (word ∷ ((ks ++ rs) ++ rest)) (terminal word) (directed (terminal word) dir h)

wire_next : (depth : ℕ) (word : Tok) (rest : List Tok) → Is (codes "wire") word → item depth (word ∷ rest) ≡ wire_items depth (word ∷ rest)
unfolding items_by
wire_next depth word rest h = item_by depth (word ∷ rest) (codes "wire") h

reg_next : (depth : ℕ) (word : Tok) (rest : List Tok) → Is (codes "reg") word → item depth (word ∷ rest) ≡ reg_items (word ∷ rest)
unfolding items_by
reg_next depth word rest h = item_by depth (word ∷ rest) (codes "reg") h

assigns_next : (depth : ℕ) (word : Tok) (rest : List Tok) → Is (codes "assign") word → item depth (word ∷ rest) ≡ assigns depth (word ∷ rest)
unfolding items_by other_items
assigns_next depth word rest h = item_by depth (word ∷ rest) (codes "assign") h

always_next : (depth : ℕ) (word : Tok) (rest : List Tok) → Is (codes "always") word → item depth (word ∷ rest) ≡ always depth (word ∷ rest)
unfolding items_by other_items
always_next depth word rest h = item_by depth (word ∷ rest) (codes "always") h

initial_next : (depth : ℕ) (word : Tok) (rest : List Tok) → Is (codes "initial") word → item depth (word ∷ rest) ≡ initial (word ∷ rest)
unfolding items_by other_items
initial_next depth word rest h = item_by depth (word ∷ rest) (codes "initial") h

instances_next : (depth : ℕ) (word : Tok) (rest : List Tok) (definition : List ℕ) → IsName word definition → item depth (word ∷ rest) ≡ instances depth (word ∷ rest)
unfolding items_by other_items gates_or_instances
instances_next depth word rest definition h = item_by depth (word ∷ rest) [] (name_free word definition h)

-- ---- how many tokens the parts have

two_fit : (us vs : List Tok) (semi : Tok) (size : ℕ) → length (us ++ (vs ++ semi ∷ [])) ≤ size → length vs ≤ size
two_fit us vs semi size fits = let all_of = simp length-append at fits in omega arith

three_fit : (us vs ws : List Tok) (semi : Tok) (size : ℕ) → length (us ++ (vs ++ (ws ++ semi ∷ []))) ≤ size → length ws ≤ size
three_fit us vs ws semi size fits = let all_of = simp length-append at fits in omega arith

-- ---- the items. The rules that they are made of read what is spelled.

module _ (EndsExpr : List Tok → Type 0) (expr_complete : (depth : ℕ) → Complete EndsExpr depth (expr depth) SpellsExpr)
    (comma_ends : (comma : Tok) (rest : List Tok) → Is (codes ",") comma → EndsExpr (comma ∷ rest)) (closing_ends : (closing : Tok) (rest : List Tok) → Is (codes ")") closing → EndsExpr (closing ∷ rest))
    (semi_ends : (semi : Tok) (rest : List Tok) → Is (codes ";") semi → EndsExpr (semi ∷ rest)) where
  instances_complete : (depth : ℕ) (word : Tok) (ts : List Tok) (semi : Tok) (definition : List ℕ) (found : List Item) (rest : List Tok) → IsName word definition → Commas (IsInstance definition) ts found → Is (codes ";") semi → length ts ≤ depth
      → instances depth (word ∷ (ts ++ semi ∷ rest)) ≡ Ok (found, rest)
  unfolding instances
  instances_complete depth word ts semi definition found rest h s g fits =
      let read = separated_complete (instance depth definition) (IsInstance definition) (λ _. Unit {0}) depth (instance_complete EndsExpr expr_complete comma_ends closing_ends depth definition) (λ _ _ _. tt) ts found (semi ∷ rest) s fits
      (tt, sees_other (codes ";") (codes ",") semi rest g refl) in
      rw (names word definition (ts ++ semi ∷ rest) h, read, expects (codes ";") semi rest g) refl

  module _ (EndsLeft : List Tok → Type 0) (left_complete : (depth : ℕ) → Complete EndsLeft depth (left depth) SpellsLeft) (comma_ends_left : (comma : Tok) (rest : List Tok) → Is (codes ",") comma → EndsLeft (comma ∷ rest))
      (equals_ends_left : (equals : Tok) (rest : List Tok) → Is (codes "=") equals → EndsLeft (equals ∷ rest))
      (delay_complete : (front rest : List Tok) → IsAnyDelay front → sees (codes "#") rest ≡ false → sees_based rest ≡ false → any_delay (front ++ rest) ≡ Ok (tt, rest)) where
    assign_complete : (depth : ℕ) → Complete EndsExpr depth (assign depth) IsAssign
    unfolding assign
    assign_complete depth _ _ rest (IsAssign.assign front equals back target right s h t) fits ends =
        rw (
          append_assoc front (equals ∷ back) rest,
          place_front front (equals ∷ (back ++ rest)) (left_begins front target s),
          left_complete depth front target (equals ∷ (back ++ rest)) s (first_fits front (equals ∷ back) depth fits) (equals_ends_left equals (back ++ rest) h),
          expects (codes "=") equals (back ++ rest) h,
          expr_complete depth back right rest t (second_fits front equals back depth fits) ends,
        ) refl

    assigns_complete : (depth : ℕ) (word : Tok) (ds ts : List Tok) (semi : Tok) (found : List Item) (rest : List Tok) → Is (codes "assign") word → IsAnyDelay ds → Commas IsAssign ts found → Is (codes ";") semi → length ts ≤ depth
        → assigns depth (word ∷ (ds ++ (ts ++ semi ∷ rest))) ≡ Ok (found, rest)
    unfolding assigns
    assigns_complete depth word ds ts semi found rest h d s g fits =
        let after = list_after IsAssign assign_after s (semi ∷ rest) in
        let read = separated_complete (assign depth) IsAssign EndsExpr depth (assign_complete depth) comma_ends ts found (semi ∷ rest) s fits (semi_ends semi rest g, sees_other (codes ";") (codes ",") semi rest g refl) in
        rw (expects (codes "assign") word (ds ++ (ts ++ semi ∷ rest)) h, delay_complete ds (ts ++ semi ∷ rest) d after.0 after.1, read, expects (codes ";") semi rest g) refl

    input_gates_complete : (depth : ℕ) (kind : GateKind) (word : Tok) (ds ts : List Tok) (semi : Tok) (found : List Item) (rest : List Tok) → IsAnyDelay ds → Commas (IsInputGate kind) ts found → Is (codes ";") semi → length ts ≤ depth
        → input_gates depth kind (word ∷ (ds ++ (ts ++ semi ∷ rest))) ≡ Ok (found, rest)
    unfolding input_gates
    input_gates_complete depth kind word ds ts semi found rest d s g fits =
        let after = list_after (IsInputGate kind) (input_gate_after kind) s (semi ∷ rest) in
        let read = separated_complete (input_gate depth kind) (IsInputGate kind) (λ _. Unit {0}) depth (input_gate_complete EndsExpr expr_complete comma_ends closing_ends EndsLeft left_complete comma_ends_left depth kind) (λ _ _ _. tt)
        ts found (semi ∷ rest) s fits (tt, sees_other (codes ";") (codes ",") semi rest g refl) in
        rw (token_read word (ds ++ (ts ++ semi ∷ rest)), delay_complete ds (ts ++ semi ∷ rest) d after.0 after.1, read, expects (codes ";") semi rest g) refl

    module _ (expr_sound : (depth : ℕ) → Sound (expr depth) SpellsExpr) (left_sound : (depth : ℕ) → Sound (left depth) SpellsLeft) where
      output_gates_complete : (depth : ℕ) (kind : GateKind) (word : Tok) (ds ts : List Tok) (semi : Tok) (found : List Item) (rest : List Tok) → IsAnyDelay ds → Commas (IsOutputGate kind) ts found → Is (codes ";") semi → length ts ≤ depth
          → output_gates depth kind (word ∷ (ds ++ (ts ++ semi ∷ rest))) ≡ Ok (found, rest)
      unfolding output_gates
      output_gates_complete depth kind word ds ts semi found rest d s g fits =
          let after = list_after (IsOutputGate kind) (output_gate_after kind) s (semi ∷ rest) in
          let read = separated_complete (output_gate depth kind) (IsOutputGate kind) (λ _. Unit {0}) depth
          (output_gate_complete EndsExpr expr_complete comma_ends closing_ends EndsLeft left_complete comma_ends_left expr_sound left_sound depth kind) (λ _ _ _. tt)
          ts found (semi ∷ rest) s fits (tt, sees_other (codes ";") (codes ",") semi rest g refl) in
          rw (token_read word (ds ++ (ts ++ semi ∷ rest)), delay_complete ds (ts ++ semi ∷ rest) d after.0 after.1, read, expects (codes ";") semi rest g) refl

      module _ (number_complete : (front : List Tok) (bits : List Bool) (rest : List Tok) → IsNumber front bits → sees_based rest ≡ false → number (front ++ rest) ≡ Ok (bits, rest))
          (stmt_complete : (depth : ℕ) → Complete (λ rest. sees (codes "else") rest ≡ false) depth (stmt depth) SpellsStmt) where
        always_complete : (depth : ℕ) (word event opening edge tok closing : Tok) (ts : List Tok) (clock : List ℕ) (body : Stmt) (rest : List Tok) → Is (codes "always") word → Is (codes "@") event → Is (codes "(") opening
            → Is (codes "posedge") edge → IsName tok clock → Is (codes ")") closing → SpellsStmt ts body → length ts ≤ depth → sees (codes "else") rest ≡ false
            → always depth (word ∷ event ∷ opening ∷ edge ∷ tok ∷ closing ∷ (ts ++ rest)) ≡ Ok (Always word.at clock body ∷ [], rest)
        unfolding always
        always_complete depth word event opening edge tok closing ts clock body rest h1 h2 h3 h4 h5 h6 s fits ends =
            rw (
              expects (codes "always") word (event ∷ opening ∷ edge ∷ tok ∷ closing ∷ (ts ++ rest)) h1,
              expects (codes "@") event (opening ∷ edge ∷ tok ∷ closing ∷ (ts ++ rest)) h2,
              expects (codes "(") opening (edge ∷ tok ∷ closing ∷ (ts ++ rest)) h3,
              expects (codes "posedge") edge (tok ∷ closing ∷ (ts ++ rest)) h4,
              names tok clock (closing ∷ (ts ++ rest)) h5,
              expects (codes ")") closing (ts ++ rest) h6,
              stmt_complete depth ts body rest s fits ends,
            ) refl

        initial_complete : (word tok equals : Tok) (ts : List Tok) (semi : Tok) (text : List ℕ) (bits : List Bool) (rest : List Tok) → Is (codes "initial") word → IsName tok text → Is (codes "=") equals → IsNumber ts bits → Is (codes ";") semi
            → initial (word ∷ tok ∷ equals ∷ (ts ++ semi ∷ rest)) ≡ Ok (Initial word.at text (variant.Number (place_of ts) bits) ∷ [], rest)
        unfolding initial
        initial_complete word tok equals ts semi text bits rest h1 h2 h3 s h4 =
            rw (
              expects (codes "initial") word (tok ∷ equals ∷ (ts ++ semi ∷ rest)) h1,
              names tok text (equals ∷ (ts ++ semi ∷ rest)) h2,
              expects (codes "=") equals (ts ++ semi ∷ rest) h3,
              place_front ts (semi ∷ rest) (number_begins ts bits s),
              number_complete ts bits (semi ∷ rest) s (not_based 59 [] semi rest h4),
              expects (codes ";") semi rest h4,
            ) refl

        -- Each item that tokens spell is read, where no `else` follows that a statement could take.
        pub item_complete : (depth : ℕ)
            → ((ss ns : List Tok) (semi : Tok) (shape : Shape) (parts : List Declared) (rest : List Tok) → IsPortShape ss shape → Commas (IsRegister shape.kind) ns parts → Is (codes ";") semi
            → port_items ((ss ++ (ns ++ semi ∷ [])) ++ rest) ≡ Ok (flat_map (declarations.register_items shape) parts, rest))
            → ((word : Tok) (rs ds ns : List Tok) (semi : Tok) (found : Option Range) (parts : List Declared) (rest : List Tok) → Is (codes "wire") word → Optional IsRange rs found → IsAnyDelay ds → Commas IsWire ns parts → length ns ≤ depth → Is (codes ";") semi
            → wire_items depth ((word ∷ (rs ++ (ds ++ (ns ++ semi ∷ [])))) ++ rest) ≡ Ok (flat_map (declarations.wire_items (record { dir = None; kind = kinds.Wire; range = found })) parts, rest))
            → ((word : Tok) (rs ns : List Tok) (semi : Tok) (found : Option Range) (parts : List Declared) (rest : List Tok) → Is (codes "reg") word → Optional IsRange rs found → Commas (IsRegister kinds.Reg) ns parts → Is (codes ";") semi
            → reg_items ((word ∷ (rs ++ (ns ++ semi ∷ []))) ++ rest) ≡ Ok (flat_map (declarations.register_items (record { dir = None; kind = kinds.Reg; range = found })) parts, rest))
            → Complete (λ rest. sees (codes "else") rest ≡ false) depth (item depth) IsItem
        item_complete depth ports wires regs _ _ rest (IsItem.port ss ns semi shape parts s t h) fits ends =
            let whole : (ss ++ (ns ++ semi ∷ [])) ++ rest ≡ ss ++ ((ns ++ semi ∷ []) ++ rest) = append_assoc ss (ns ++ semi ∷ []) rest in
            ap (item depth) whole ∙ port_next depth ss shape ((ns ++ semi ∷ []) ++ rest) s ∙ ap port_items (sym whole) ∙ ports ss ns semi shape parts rest s t h
        item_complete depth ports wires regs _ _ rest (IsItem.wire word rs ds ns semi found parts h r d s g) fits ends =
            let small : length ns ≤ depth = three_fit rs ds ns semi depth (omega arith) in
            wire_next depth word ((rs ++ (ds ++ (ns ++ semi ∷ []))) ++ rest) h ∙ wires word rs ds ns semi found parts rest h r d s small g
        item_complete depth ports wires regs _ _ rest (IsItem.reg word rs ns semi found parts h r s g) fits ends =
            reg_next depth word ((rs ++ (ns ++ semi ∷ [])) ++ rest) h ∙ regs word rs ns semi found parts rest h r s g
        item_complete depth ports wires regs _ _ rest (IsItem.assign word ds ts semi found h d s g) fits ends =
            ap (λ (xs : List Tok). item depth (word ∷ xs)) (two_parts ds ts semi rest) ∙ assigns_next depth word (ds ++ (ts ++ semi ∷ rest)) h
            ∙ assigns_complete depth word ds ts semi found rest h d s g (two_fit ds ts semi depth (omega arith))
        item_complete depth ports wires regs _ _ rest (IsItem.input_gates word ds ts semi kind found h d s g) fits ends =
            ap (λ (xs : List Tok). item depth (word ∷ xs)) (two_parts ds ts semi rest) ∙ input_gates_next depth word (ds ++ (ts ++ semi ∷ rest)) kind h
            ∙ input_gates_complete depth kind word ds ts semi found rest d s g (two_fit ds ts semi depth (omega arith))
        item_complete depth ports wires regs _ _ rest (IsItem.output_gates word ds ts semi kind found h d s g) fits ends =
            ap (λ (xs : List Tok). item depth (word ∷ xs)) (two_parts ds ts semi rest) ∙ output_gates_next depth word (ds ++ (ts ++ semi ∷ rest)) kind h
            ∙ output_gates_complete depth kind word ds ts semi found rest d s g (two_fit ds ts semi depth (omega arith))
        item_complete depth ports wires regs _ _ rest (IsItem.instances word ts semi definition found h s g) fits ends =
            ap (λ (xs : List Tok). item depth (word ∷ xs)) (one_part ts semi rest) ∙ instances_next depth word (ts ++ semi ∷ rest) definition h
            ∙ instances_complete depth word ts semi definition found rest h s g (first_fits ts (semi ∷ []) depth (omega arith))
        item_complete depth ports wires regs _ _ rest (IsItem.always word event opening edge tok closing ts clock body h1 h2 h3 h4 h5 h6 s) fits ends =
            always_next depth word (event ∷ opening ∷ edge ∷ tok ∷ closing ∷ (ts ++ rest)) h1
            ∙ always_complete depth word event opening edge tok closing ts clock body rest h1 h2 h3 h4 h5 h6 s (omega arith) ends
        item_complete depth ports wires regs _ _ rest (IsItem.initial word tok equals ts semi text bits h1 h2 h3 s h4) fits ends =
            ap (λ (xs : List Tok). item depth (word ∷ tok ∷ equals ∷ xs)) (one_part ts semi rest) ∙ initial_next depth word (tok ∷ equals ∷ (ts ++ semi ∷ rest)) h1
            ∙ initial_complete word tok equals ts semi text bits rest h1 h2 h3 s h4

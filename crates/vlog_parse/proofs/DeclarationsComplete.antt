-- Declarations that tokens spell are read.
use Rattle.std.proofs.Common.{◌≡◌, ◌≤◌, ◌⊎◌, ℕ, Bool, true, false, List, [], ◌∷◌, ◌++◌, length, codes, Option, Some, None, Ok, bytes_eq, refl, sym, ap, ◌∙◌, subst, append_assoc, inl, inr, arith}
use Rattle.std.specs.List.{flat_map}
use Rattle.std.proofs.lemmas.Slice.Eq.{bytes_eq-Decides}
use Rattle.bm_base.specs.declared.range.Range.{Range}
use Rattle.vlog_tokens.specs.Toks.{Tok}
use Rattle.vlog_tokens.specs.declared.token.TokenKind.{TokenKind}
use Rattle.vlog_tokens.specs.declared.token.TokenKind.TheVariants.{Word, Escaped, System, Decimal, Based, Text, Mark}
use Rattle.vlog_tree.specs.declared.expr.Expr.{Expr}
use Rattle.vlog_tree.specs.declared.expr.Expr.TheVariants as expr
use Rattle.vlog_tree.specs.declared.item.Dir.{Dir}
use Rattle.vlog_tree.specs.declared.item.Dir.TheVariants.{Input, Output}
use Rattle.vlog_tree.specs.declared.item.NetKind.{NetKind}
use Rattle.vlog_tree.specs.declared.item.NetKind.TheVariants as kinds
use Rattle.vlog_tree.specs.Spelling.Declarations as spelling
use Rattle.vlog_tree.specs.Spelling.Declarations.{Declared, IsKind, IsPortShape, IsRegister, IsWire, Shape}
use Rattle.vlog_tree.specs.Spelling.Exprs.{SpellsExpr}
use Rattle.vlog_tree.specs.Spelling.Numbers.{IsNumber}
use Rattle.vlog_tree.specs.Spelling.Parts.{Commas, Is, IsAnyDelay, IsDelay, IsName, IsNameBy, IsRange, Optional, place_of, terminal, terminal_by}
use Rattle.vlog_parse.specs.Declarations.{any_range, assigned_expr, assigned_number, at_word, direction, is_direction, net_kind, port_items, port_shape, reg_items, register, register_value, registers, wire, wire_items, wire_value, wires}
use Rattle.vlog_parse.specs.Delays.{any_delay}
use Rattle.vlog_parse.specs.Exprs as exprs
use Rattle.vlog_parse.specs.Gathers.{gathered}
use Rattle.vlog_numbers.specs.Values.{is_based_kind, sees_based}
use Rattle.vlog_parse.specs.Numbers.{number}
use Rattle.vlog_parse.specs.Reads.{◌>>◌, Parser, expect, pure, sees}
use Rattle.vlog_parse.proofs.DeclarationsSound.{number_place}
use Rattle.vlog_parse.proofs.Gathered.{gathered_complete}
use Rattle.vlog_parse.proofs.Selects.{range_complete}
use Rattle.vlog_parse.proofs.Rules.{Complete, expects, sees_is, sees_other}
use Rattle.vlog_parse.proofs.Terminals.{name_free, names}

text_is : (found text : List ℕ) → bytes_eq found text ≡ true → found ≡ text
text_is found text h = (bytes_eq-Decides found text).0 h

-- ---- what may come next

-- A name comes next.
abbrev pub StartsName : List Tok → Type 0
StartsName rest = (word : Tok) × (more : List Tok) × (name : List ℕ) × (rest ≡ word ∷ more) × IsName word name

-- A name is no reserved word and no mark.
pub name_unseen : (text : List ℕ) (rest : List Tok) → StartsName rest → bytes_eq [] text ≡ false → sees text rest ≡ false
name_unseen text rest (word, more, name, is, h) differs = ap (sees text) is ∙ sees_other [] text word more (name_free word name h) differs

pub name_no_direction : (rest : List Tok) → StartsName rest → is_direction rest ≡ false
name_no_direction rest starts = rw (name_unseen (codes "input") rest starts refl, name_unseen (codes "output") rest starts refl) refl

-- A name that nothing else is assigned to ends before this.
abbrev pub EndsName : List Tok → Type 0
EndsName rest = (sees (codes "=") rest ≡ false) × (sees_based rest ≡ false)

not_based_by : (kind : TokenKind) (text : List ℕ) (byte : ℕ) (bytes : List ℕ) → terminal_by kind text ≡ byte ∷ bytes → is_based_kind kind ≡ false
not_based_by Word text byte bytes h = refl
not_based_by Escaped text byte bytes h = refl
not_based_by System text byte bytes h = refl
not_based_by Decimal text byte bytes h = refl
not_based_by Based text byte bytes h = cc
not_based_by Text text byte bytes h = refl
not_based_by Mark text byte bytes h = refl

-- A reserved word or a mark is no based token.
pub not_based : (byte : ℕ) (bytes : List ℕ) (tok : Tok) (rest : List Tok) → Is (byte ∷ bytes) tok → sees_based (tok ∷ rest) ≡ false
not_based byte bytes tok rest h = not_based_by tok.kind tok.text byte bytes h

name_not_based_by : (kind : TokenKind) (text name : List ℕ) → IsNameBy kind text name → is_based_kind kind ≡ false
name_not_based_by Word text name h = refl
name_not_based_by Escaped text name h = refl
name_not_based_by System text name h = absurd h
name_not_based_by Decimal text name h = absurd h
name_not_based_by Based text name h = absurd h
name_not_based_by Text text name h = absurd h
name_not_based_by Mark text name h = absurd h

pub name_not_based : (rest : List Tok) → StartsName rest → sees_based rest ≡ false
name_not_based rest (word, more, name, is, h) = ap sees_based is ∙ name_not_based_by word.kind word.text name h

pub comma_ends : (comma : Tok) (rest : List Tok) → Is (codes ",") comma → EndsName (comma ∷ rest)
comma_ends comma rest h = (sees_other (codes ",") (codes "=") comma rest h refl, not_based 44 [] comma rest h)

pub semi_ends : (semi : Tok) (rest : List Tok) → Is (codes ";") semi → EndsName (semi ∷ rest)
semi_ends semi rest h = (sees_other (codes ";") (codes "=") semi rest h refl, not_based 59 [] semi rest h)

pub closing_ends : (closing : Tok) (rest : List Tok) → Is (codes ")") closing → EndsName (closing ∷ rest)
closing_ends closing rest h = (sees_other (codes ")") (codes "=") closing rest h refl, not_based 41 [] closing rest h)

-- ---- one rule or another

pub one_read : {A : Type 0} (text : List ℕ) (one other : Parser A) (ts : List Tok) → sees text ts ≡ true → at_word text one other ts ≡ one ts
one_read text one other ts h = rw h refl

pub other_read : {A : Type 0} (text : List ℕ) (one other : Parser A) (ts : List Tok) → sees text ts ≡ false → at_word text one other ts ≡ other ts
other_read text one other ts h = rw h refl

pub word_read : {A : Type 0} (text : List ℕ) (meant : A) (word : Tok) (rest : List Tok) → Is text word → (expect text >> pure meant) (word ∷ rest) ≡ Ok (meant, rest)
word_read text meant word rest h = rw (expects text word rest h) refl

-- ---- what is said of all names

direction_is : (word : Tok) (dir : Dir) → spelling.direction (terminal word) ≡ Some dir → (Is (codes "input") word × (dir ≡ Input)) ⊎ (Is (codes "output") word × (dir ≡ Output))
direction_is word dir e = by (bytes_eq (terminal word) (codes "input")) (bytes_eq (terminal word) (codes "output")) refl refl
  where
    by : (b c : Bool) → bytes_eq (terminal word) (codes "input") ≡ b → bytes_eq (terminal word) (codes "output") ≡ c → (Is (codes "input") word × (dir ≡ Input)) ⊎ (Is (codes "output") word × (dir ≡ Output))
    by true c h k = let same : Some Input ≡ Some dir = rw h at e in inl (text_is (terminal word) (codes "input") h, (cc))
    by false true h k = let same : Some Output ≡ Some dir = rw (h, k) at e in inr (text_is (terminal word) (codes "output") k, (cc))
    by false false h k = let no = rw (h, k) at e in cc

pub direction_read : (word : Tok) (dir : Dir) (rest : List Tok) → spelling.direction (terminal word) ≡ Some dir → (direction (word ∷ rest) ≡ Ok (dir, rest)) × (is_direction (word ∷ rest) ≡ true)
unfolding direction
direction_read word dir rest e = elim (direction_is word dir e) [
  | inl (h, same) ↦ (rw (sees_is (codes "input") word rest h, same) (word_read (codes "input") Input word rest h), rw (sees_is (codes "input") word rest h) refl)
  | inr (h, same) ↦ (
    rw (sees_other (codes "output") (codes "input") word rest h refl, sees_is (codes "output") word rest h, same) (word_read (codes "output") Output word rest h),
    rw (sees_other (codes "output") (codes "input") word rest h refl, sees_is (codes "output") word rest h) refl,
  )
]

net_kind_read : (ks : List Tok) (kind : NetKind) (rest : List Tok) → IsKind ks kind → sees (codes "wire") rest ≡ false → sees (codes "reg") rest ≡ false → net_kind (ks ++ rest) ≡ Ok (kind, rest)
unfolding net_kind
net_kind_read _ _ rest IsKind.plain no_wire no_reg = rw (no_wire, no_reg) refl
net_kind_read _ _ rest (IsKind.wire word h) no_wire no_reg = rw (sees_is (codes "wire") word rest h) (word_read (codes "wire") kinds.Wire word rest h)
net_kind_read _ _ rest (IsKind.reg word h) no_wire no_reg = rw (sees_other (codes "reg") (codes "wire") word rest h refl, sees_is (codes "reg") word rest h) (word_read (codes "reg") kinds.Reg word rest h)

range_front : (front : List Tok) (r : Range) (rest : List Tok) → IsRange front r → (opening : Tok) × (more : List Tok) × (front ++ rest ≡ opening ∷ more) × Is (codes "[") opening
range_front _ _ rest (IsRange.range opening left colon right closing high low o l c r cl) = (opening, left ∷ colon ∷ right ∷ closing ∷ rest, refl, o)

pub any_range_read : (rs : List Tok) (found : Option Range) (rest : List Tok) → Optional IsRange rs found → sees (codes "[") rest ≡ false → any_range (rs ++ rest) ≡ Ok (found, rest)
unfolding any_range
any_range_read rs None rest same no_range = rw (same, no_range) refl
any_range_read rs (Some r) rest spelled no_range =
    let (opening, more, is, h) = range_front rs r rest spelled in
    let seen : sees (codes "[") (rs ++ rest) ≡ true = ap (sees (codes "[")) is ∙ sees_is (codes "[") opening more h in
    rw (seen, range_complete spelled rest) refl

-- what a range may stand before is seen where none stands
after_range : (text : List ℕ) (rs : List Tok) (found : Option Range) (rest : List Tok) → Optional IsRange rs found → bytes_eq (codes "[") text ≡ false → sees text rest ≡ false → sees text (rs ++ rest) ≡ false
after_range text rs None rest same differs unseen = ap (λ (xs : List Tok). sees text (xs ++ rest)) same ∙ unseen
after_range text rs (Some r) rest spelled differs unseen = let (opening, more, is, h) = range_front rs r rest spelled in ap (sees text) is ∙ sees_other (codes "[") text opening more h differs

pub port_shape_read : (ss : List Tok) (shape : Shape) (rest : List Tok) → IsPortShape ss shape → StartsName rest → (port_shape (ss ++ rest) ≡ Ok (shape, rest)) × (is_direction (ss ++ rest) ≡ true)
unfolding port_shape
port_shape_read _ _ rest (IsPortShape.port_shape word ks rs dir kind found d k r) starts =
    let whole : (ks ++ rs) ++ rest ≡ ks ++ (rs ++ rest) = append_assoc ks rs rest in
    let no_wire = after_range (codes "wire") rs found rest r refl (name_unseen (codes "wire") rest starts refl) in
    let no_reg = after_range (codes "reg") rs found rest r refl (name_unseen (codes "reg") rest starts refl) in
    let no_range = name_unseen (codes "[") rest starts refl in
    let (directed, told) = direction_read word dir ((ks ++ rs) ++ rest) d in
    (rw (directed, whole, net_kind_read ks kind (rs ++ rest) k no_wire no_reg, any_range_read rs found rest r no_range) refl, told)

-- ---- the names of registers

pub register_starts : (kind : NetKind) (front : List Tok) (declared : Declared) (rest : List Tok) → IsRegister kind front declared → StartsName (front ++ rest)
register_starts _ _ _ rest (IsRegister.plain kind word name h) = (word, rest, name, refl, h)
register_starts _ _ _ rest (IsRegister.initial word equals ts name bits h e n) = (word, equals ∷ (ts ++ rest), name, refl, h)

pub wire_starts : (front : List Tok) (declared : Declared) (rest : List Tok) → IsWire front declared → StartsName (front ++ rest)
wire_starts _ _ rest (IsWire.plain word name h) = (word, rest, name, refl, h)
wire_starts _ _ rest (IsWire.assigned word equals ts name right h e n) = (word, equals ∷ (ts ++ rest), name, refl, h)

pub commas_start : {A : Type 0} (Spelled : List Tok → A → Type 0) → ((front : List Tok) (a : A) (rest : List Tok) → Spelled front a → StartsName (front ++ rest))
    → (front : List Tok) (parts : List A) (rest : List Tok) → Commas Spelled front parts → StartsName (front ++ rest)
commas_start Spelled starts _ _ rest (Commas.last only a s) = starts only a rest s
commas_start Spelled starts _ _ rest (Commas.next first comma more a others s is spelled) = subst StartsName (sym (append_assoc first (comma ∷ more) rest)) (starts first a (comma ∷ (more ++ rest)) s)

-- a list and the semicolon
behind : (front : List Tok) (semi : Tok) (rest : List Tok) → (front ++ semi ∷ []) ++ rest ≡ front ++ semi ∷ rest
behind front semi rest = append_assoc front (semi ∷ []) rest

module _ (number_complete : (front : List Tok) (bits : List Bool) (rest : List Tok) → IsNumber front bits → sees_based rest ≡ false → number (front ++ rest) ≡ Ok (bits, rest)) where
  no_value_read : (kind : NetKind) (rest : List Tok) → EndsName rest → register_value kind rest ≡ Ok (None, rest)
  no_value_read kinds.Plain rest ends = refl
  no_value_read kinds.Wire rest ends = refl
  no_value_read kinds.Reg rest ends = rw (ends.0) refl

  number_read : (equals : Tok) (ts : List Tok) (bits : List Bool) (rest : List Tok) → Is (codes "=") equals → IsNumber ts bits → EndsName rest
      → register_value kinds.Reg (equals ∷ (ts ++ rest)) ≡ Ok (Some (expr.Number (place_of ts) bits), rest)
  unfolding assigned_number
  number_read equals ts bits rest h n ends =
      rw (sees_is (codes "=") equals (ts ++ rest) h, expects (codes "=") equals (ts ++ rest) h, number_complete ts bits rest n ends.1, number_place ts bits rest n) refl

  pub register_read : (kind : NetKind) (front : List Tok) (declared : Declared) (rest : List Tok) → IsRegister kind front declared → EndsName rest → register kind (front ++ rest) ≡ Ok (declared, rest)
  unfolding register
  register_read _ _ _ rest (IsRegister.plain kind word name h) ends = rw (names word name rest h, no_value_read kind rest ends) refl
  register_read _ _ _ rest (IsRegister.initial word equals ts name bits h e n) ends = rw (names word name (equals ∷ (ts ++ rest)) h, number_read equals ts bits rest e n ends) refl

  registers_read : (shape : Shape) (front : List Tok) (parts : List Declared) (semi : Tok) (rest : List Tok) → Commas (IsRegister shape.kind) front parts → Is (codes ";") semi
      → registers shape ((front ++ semi ∷ []) ++ rest) ≡ Ok (flat_map (spelling.register_items shape) parts, rest)
  unfolding registers
  registers_read shape front parts semi rest spelled h =
      let read : gathered (spelling.register_items shape) (register shape.kind) (front ++ semi ∷ rest) ≡ Ok (flat_map (spelling.register_items shape) parts, semi ∷ rest) =
      gathered_complete (spelling.register_items shape) (register shape.kind) (IsRegister shape.kind) EndsName (length front) (λ first declared more s fits ends. register_read shape.kind first declared more s ends) comma_ends
      front parts (semi ∷ rest) spelled (omega arith) (semi_ends semi rest h) (sees_other (codes ";") (codes ",") semi rest h refl) in
      rw (behind front semi rest, read, expects (codes ";") semi rest h) refl

  pub port_items_complete : (ss ns : List Tok) (semi : Tok) (shape : Shape) (parts : List Declared) (rest : List Tok) → IsPortShape ss shape → Commas (IsRegister shape.kind) ns parts → Is (codes ";") semi
      → port_items ((ss ++ (ns ++ semi ∷ [])) ++ rest) ≡ Ok (flat_map (spelling.register_items shape) parts, rest)
  unfolding port_items
  port_items_complete ss ns semi shape parts rest s spelled h =
      let whole : (ss ++ (ns ++ semi ∷ [])) ++ rest ≡ ss ++ ((ns ++ semi ∷ []) ++ rest) = append_assoc ss (ns ++ semi ∷ []) rest in
      let starts : StartsName ((ns ++ semi ∷ []) ++ rest) = subst StartsName (sym (behind ns semi rest)) (commas_start (IsRegister shape.kind) (register_starts shape.kind) ns parts (semi ∷ rest) spelled) in
      let shaped : port_shape (ss ++ ((ns ++ semi ∷ []) ++ rest)) ≡ Ok (shape, (ns ++ semi ∷ []) ++ rest) = (port_shape_read ss shape ((ns ++ semi ∷ []) ++ rest) s starts).0 in
      rw (whole, shaped) (registers_read shape ns parts semi rest spelled h)

  pub reg_items_complete : (word : Tok) (rs ns : List Tok) (semi : Tok) (found : Option Range) (parts : List Declared) (rest : List Tok) → Is (codes "reg") word → Optional IsRange rs found → Commas (IsRegister kinds.Reg) ns parts → Is (codes ";") semi
      → reg_items ((word ∷ (rs ++ (ns ++ semi ∷ []))) ++ rest) ≡ Ok (flat_map (spelling.register_items (record { dir = None; kind = kinds.Reg; range = found })) parts, rest)
  unfolding reg_items
  reg_items_complete word rs ns semi found parts rest met r spelled h =
      let whole : (rs ++ (ns ++ semi ∷ [])) ++ rest ≡ rs ++ ((ns ++ semi ∷ []) ++ rest) = append_assoc rs (ns ++ semi ∷ []) rest in
      let starts : StartsName ((ns ++ semi ∷ []) ++ rest) = subst StartsName (sym (behind ns semi rest)) (commas_start (IsRegister kinds.Reg) (register_starts kinds.Reg) ns parts (semi ∷ rest) spelled) in
      let ranged : any_range (rs ++ ((ns ++ semi ∷ []) ++ rest)) ≡ Ok (found, (ns ++ semi ∷ []) ++ rest) = any_range_read rs found ((ns ++ semi ∷ []) ++ rest) r (name_unseen (codes "[") ((ns ++ semi ∷ []) ++ rest) starts refl) in
      rw (whole, expects (codes "reg") word (rs ++ ((ns ++ semi ∷ []) ++ rest)) met, ranged) (registers_read (record { dir = None; kind = kinds.Reg; range = found }) ns parts semi rest spelled h)

-- ---- the names of wires

delay_front : (front rest : List Tok) → IsDelay front → (hash : Tok) × (more : List Tok) × (front ++ rest ≡ hash ∷ more) × Is (codes "#") hash
delay_front _ rest (IsDelay.single hash value n h d) = (hash, value ∷ rest, refl, h)
delay_front _ rest (IsDelay.several hash opening closing values ns h o spelled c) = (hash, opening ∷ ((values ++ closing ∷ []) ++ rest), refl, h)

no_range_before : (ds rest : List Tok) → IsAnyDelay ds → StartsName rest → sees (codes "[") (ds ++ rest) ≡ false
no_range_before ds rest (inl none) starts = ap (λ (xs : List Tok). sees (codes "[") (xs ++ rest)) none ∙ name_unseen (codes "[") rest starts refl
no_range_before ds rest (inr delay) starts = let (hash, more, is, h) = delay_front ds rest delay in ap (sees (codes "[")) is ∙ sees_other (codes "#") (codes "[") hash more h refl

module _ (EndsExpr : List Tok → Type 0) (comma_ends_expr : (comma : Tok) (rest : List Tok) → Is (codes ",") comma → EndsExpr (comma ∷ rest)) (semi_ends_expr : (semi : Tok) (rest : List Tok) → Is (codes ";") semi → EndsExpr (semi ∷ rest))
    (expr_complete : (depth : ℕ) → Complete EndsExpr depth (exprs.expr depth) SpellsExpr)
    (delay_complete : (front rest : List Tok) → IsAnyDelay front → sees (codes "#") rest ≡ false → sees_based rest ≡ false → any_delay (front ++ rest) ≡ Ok (tt, rest)) where
  abbrev EndsWire : List Tok → Type 0
  EndsWire rest = EndsExpr rest × (sees (codes "=") rest ≡ false)

  expr_read : (depth : ℕ) (equals : Tok) (ts : List Tok) (right : Expr) (rest : List Tok) → Is (codes "=") equals → SpellsExpr ts right → length ts ≤ depth → EndsWire rest
      → wire_value depth (equals ∷ (ts ++ rest)) ≡ Ok (Some right, rest)
  unfolding assigned_expr
  expr_read depth equals ts right rest h s fits ends = rw (sees_is (codes "=") equals (ts ++ rest) h, expects (codes "=") equals (ts ++ rest) h, expr_complete depth ts right rest s fits ends.0) refl

  pub wire_read : (depth : ℕ) → Complete EndsWire depth (wire depth) IsWire
  unfolding wire
  wire_read depth _ _ rest (IsWire.plain word name h) fits ends = rw (names word name rest h, other_read (codes "=") (assigned_expr depth) (pure None) rest ends.1) refl
  wire_read depth _ _ rest (IsWire.assigned word equals ts name right h e s) fits ends = rw (names word name (equals ∷ (ts ++ rest)) h, expr_read depth equals ts right rest e s (omega (arith, fits)) ends) refl

  wires_read : (depth : ℕ) (shape : Shape) (front : List Tok) (parts : List Declared) (semi : Tok) (rest : List Tok) → Commas IsWire front parts → length front ≤ depth → Is (codes ";") semi
      → wires depth shape ((front ++ semi ∷ []) ++ rest) ≡ Ok (flat_map (spelling.wire_items shape) parts, rest)
  unfolding wires
  wires_read depth shape front parts semi rest spelled fits h =
      let read : gathered (spelling.wire_items shape) (wire depth) (front ++ semi ∷ rest) ≡ Ok (flat_map (spelling.wire_items shape) parts, semi ∷ rest) =
      gathered_complete (spelling.wire_items shape) (wire depth) IsWire EndsWire depth (wire_read depth) (λ comma ts is. (comma_ends_expr comma ts is, sees_other (codes ",") (codes "=") comma ts is refl))
      front parts (semi ∷ rest) spelled fits (semi_ends_expr semi rest h, sees_other (codes ";") (codes "=") semi rest h refl) (sees_other (codes ";") (codes ",") semi rest h refl) in
      rw (behind front semi rest, read, expects (codes ";") semi rest h) refl

  pub wire_items_complete : (depth : ℕ) (word : Tok) (rs ds ns : List Tok) (semi : Tok) (found : Option Range) (parts : List Declared) (rest : List Tok) → Is (codes "wire") word → Optional IsRange rs found → IsAnyDelay ds
      → Commas IsWire ns parts → length ns ≤ depth → Is (codes ";") semi
      → wire_items depth ((word ∷ (rs ++ (ds ++ (ns ++ semi ∷ [])))) ++ rest) ≡ Ok (flat_map (spelling.wire_items (record { dir = None; kind = kinds.Wire; range = found })) parts, rest)
  unfolding wire_items
  wire_items_complete depth word rs ds ns semi found parts rest met r d spelled fits h =
      let whole : (rs ++ (ds ++ (ns ++ semi ∷ []))) ++ rest ≡ rs ++ (ds ++ ((ns ++ semi ∷ []) ++ rest)) = append_assoc rs (ds ++ (ns ++ semi ∷ [])) rest ∙ ap (λ (xs : List Tok). rs ++ xs) (append_assoc ds (ns ++ semi ∷ []) rest) in
      let starts : StartsName ((ns ++ semi ∷ []) ++ rest) = subst StartsName (sym (behind ns semi rest)) (commas_start IsWire wire_starts ns parts (semi ∷ rest) spelled) in
      let ranged : any_range (rs ++ (ds ++ ((ns ++ semi ∷ []) ++ rest))) ≡ Ok (found, ds ++ ((ns ++ semi ∷ []) ++ rest)) = any_range_read rs found (ds ++ ((ns ++ semi ∷ []) ++ rest)) r (no_range_before ds ((ns ++ semi ∷ []) ++ rest) d starts) in
      let delayed : any_delay (ds ++ ((ns ++ semi ∷ []) ++ rest)) ≡ Ok (tt, (ns ++ semi ∷ []) ++ rest) = delay_complete ds ((ns ++ semi ∷ []) ++ rest) d (name_unseen (codes "#") ((ns ++ semi ∷ []) ++ rest) starts refl) (name_not_based ((ns ++ semi ∷ []) ++ rest) starts) in
      rw (whole, expects (codes "wire") word (rs ++ (ds ++ ((ns ++ semi ∷ []) ++ rest))) met, ranged, delayed) (wires_read depth (record { dir = None; kind = kinds.Wire; range = found }) ns parts semi rest spelled fits h)

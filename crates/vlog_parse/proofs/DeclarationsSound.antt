-- What the rules of declarations read is spelled by the tokens that they take.
use Rattle.std.proofs.Common.{◌≡◌, ◌⊎◌, ℕ, Bool, true, false, List, [], ◌∷◌, ◌++◌, codes, Option, Some, None, Ok, refl, sym, ap, ◌∙◌, subst, append_assoc, inl, inr}
use Rattle.bm_base.specs.declared.range.Range.{Range}
use Rattle.vlog_tokens.specs.Toks.{Tok}
use Rattle.vlog_tree.specs.declared.expr.Expr.{Expr}
use Rattle.vlog_tree.specs.declared.expr.Expr.TheVariants as expr
use Rattle.vlog_tree.specs.declared.item.Dir.{Dir}
use Rattle.vlog_tree.specs.declared.item.Dir.TheVariants.{Input, Output}
use Rattle.vlog_tree.specs.declared.item.Item.{Item}
use Rattle.vlog_tree.specs.declared.item.NetKind.{NetKind}
use Rattle.vlog_tree.specs.declared.item.NetKind.TheVariants.{Plain, Wire, Reg}
use Rattle.vlog_tree.specs.Spelling.Declarations as spelling
use Rattle.vlog_tree.specs.Spelling.Declarations.{Declared, IsKind, IsPortShape, IsRegister, IsWire, Shape}
use Rattle.vlog_tree.specs.Spelling.Exprs.{SpellsExpr}
use Rattle.vlog_tree.specs.Spelling.Items.{IsItem}
use Rattle.vlog_tree.specs.Spelling.Numbers.{IsNumber}
use Rattle.vlog_tree.specs.Spelling.Parts.{Is, IsAnyDelay, IsName, IsRange, Optional, place_of, terminal}
use Rattle.vlog_parse.specs.Declarations.{any_range, assigned_expr, assigned_number, at_word, direction, net_kind, port_items, port_shape, reg_items, register, register_value, registers, wire, wire_items, wire_value, wires}
use Rattle.vlog_parse.specs.Delays.{any_delay}
use Rattle.vlog_parse.specs.Exprs as exprs
use Rattle.vlog_parse.specs.Gathers.{gathered}
use Rattle.vlog_parse.specs.Numbers.{number}
use Rattle.vlog_parse.specs.Reads.{◌>>◌, Parser, and_then, expect, pure, refuse, sees}
use Rattle.vlog_parse.specs.Selects.{range}
use Rattle.vlog_parse.specs.Terminals as terminals
use Rattle.vlog_parse.proofs.Gathered.{Gathered, gathered_sound}
use Rattle.vlog_parse.proofs.Rules.{◌>>=◌, Sound, found_is, left_is, mark_took, then_took}
use Rattle.vlog_parse.proofs.Terminals.{name_took}

-- ---- one rule or another

-- which one was read, by the word that is next
pub word_took : {A : Type 0} (text : List ℕ) (one other : Parser A) (ts : List Tok) (a : A) (rest : List Tok) → at_word text one other ts ≡ Ok (a, rest)
    → ((sees text ts ≡ true) × (one ts ≡ Ok (a, rest))) ⊎ ((sees text ts ≡ false) × (other ts ≡ Ok (a, rest)))
word_took {A} text one other ts a rest e = by (sees text ts) refl
  where
    by : (b : Bool) → sees text ts ≡ b → ((sees text ts ≡ true) × (one ts ≡ Ok (a, rest))) ⊎ ((sees text ts ≡ false) × (other ts ≡ Ok (a, rest)))
    by true h = inl (h, rw h at e)
    by false h = inr (h, rw h at e)

-- a word that stands for something
pub word_is : {A : Type 0} (text : List ℕ) (meant : A) (ts : List Tok) (a : A) (rest : List Tok) → (expect text >> pure meant) ts ≡ Ok (a, rest)
    → (word : Tok) × (ts ≡ word ∷ rest) × Is text word × (a ≡ meant)
word_is text meant ts a rest e = do
  (word, left, is, met, m) ← mark_took text (λ _. pure meant) ts a rest e
  (word, is ∙ ap (λ (xs : List Tok). word ∷ xs) (sym (left_is m)), met, found_is m)

-- ---- what is said of all names

pub direction_took : (ts : List Tok) (dir : Dir) (rest : List Tok) → direction ts ≡ Ok (dir, rest) → (word : Tok) × (ts ≡ word ∷ rest) × (spelling.direction (terminal word) ≡ Some dir)
unfolding direction
direction_took ts dir rest e = elim (word_took (codes "input") (expect (codes "input") >> pure Input) (at_word (codes "output") (expect (codes "output") >> pure Output) refuse) ts dir rest e) [
  | inl (h, one) ↦ (let (word, is, met, same) = word_is (codes "input") Input ts dir rest one in (word, is, rw (met, same) refl))
  | inr (h, more) ↦ elim (word_took (codes "output") (expect (codes "output") >> pure Output) refuse ts dir rest more) [
    | inl (h, one) ↦ (let (word, is, met, same) = word_is (codes "output") Output ts dir rest one in (word, is, rw (met, same) refl))
    | inr (h, none) ↦ cc
  ]
]

pub net_kind_sound : Sound net_kind IsKind
unfolding net_kind
net_kind_sound ts kind rest e = elim (word_took (codes "wire") (expect (codes "wire") >> pure Wire) (at_word (codes "reg") (expect (codes "reg") >> pure Reg) (pure Plain)) ts kind rest e) [
  | inl (h, one) ↦ (let (word, is, met, same) = word_is (codes "wire") Wire ts kind rest one in (word ∷ [], is, subst (λ (k : NetKind). IsKind (word ∷ []) k) (sym same) (IsKind.wire word met)))
  | inr (h, more) ↦ elim (word_took (codes "reg") (expect (codes "reg") >> pure Reg) (pure Plain) ts kind rest more) [
    | inl (h, one) ↦ (let (word, is, met, same) = word_is (codes "reg") Reg ts kind rest one in (word ∷ [], is, subst (λ (k : NetKind). IsKind (word ∷ []) k) (sym same) (IsKind.reg word met)))
    | inr (h, none) ↦ ([], sym (left_is none), subst (λ (k : NetKind). IsKind [] k) (sym (found_is none)) IsKind.plain)
  ]
]

-- a range that is there
abbrev some_range : Parser (Option Range)
some_range = λ ts. and_then (range ts) (λ r. pure (Some r))

module _ (range_sound : Sound range IsRange) where
  pub any_range_sound : Sound any_range (Optional IsRange)
  unfolding any_range
  any_range_sound ts found rest e = elim (word_took (codes "[") some_range (pure None) ts found rest e) [
    | inl (h, one) ↦ (do
      (r, left, was, m) ← then_took (range ts) _ found rest one
      (front, is, spelled) ← range_sound ts r left was
      (front, is ∙ ap (λ (xs : List Tok). front ++ xs) (sym (left_is m)), subst (λ (o : Option Range). Optional IsRange front o) (sym (found_is m)) spelled))
    | inr (h, none) ↦ ([], sym (left_is none), subst (λ (o : Option Range). Optional IsRange [] o) (sym (found_is none)) refl)
  ]

  pub port_shape_sound : Sound port_shape IsPortShape
  unfolding port_shape
  port_shape_sound ts shape rest e = do
    (dir, ts1, was1, m1) ← then_took (direction ts) _ shape rest e
    (word, e1, d) ← direction_took ts dir ts1 was1
    (kind, ts2, was2, m2) ← then_took (net_kind ts1) _ shape rest m1
    (ks, e2, k) ← net_kind_sound ts1 kind ts2 was2
    (found, ts3, was3, m3) ← then_took (any_range ts2) _ shape rest m2
    (rs, e3, r) ← any_range_sound ts2 found ts3 was3
    (
      word ∷ (ks ++ rs),
      e1 ∙ ap (λ (xs : List Tok). word ∷ xs) (e2 ∙ ap (λ (xs : List Tok). ks ++ xs) (e3 ∙ ap (λ (xs : List Tok). rs ++ xs) (sym (left_is m3))) ∙ sym (append_assoc ks rs rest)),
      subst (λ (s : Shape). IsPortShape (word ∷ (ks ++ rs)) s) (sym (found_is m3)) (IsPortShape.port_shape word ks rs dir kind found d k r),
    )

-- ---- names with values

-- A number begins with a token.
pub number_place : (front : List Tok) (bits : List Bool) (rest : List Tok) → IsNumber front bits → place_of (front ++ rest) ≡ place_of front
number_place _ _ rest (IsNumber.decimal digits value h) = refl
number_place _ _ rest (IsNumber.based digits bits h fits) = refl
number_place _ _ rest (IsNumber.sized size digits width bits h b) = refl

-- What follows the name of a register or port, and then the whole of it.
abbrev RegisterValue : NetKind → List Tok → Option Expr → Type 0
RegisterValue kind ts value = (word : Tok) (name : List ℕ) → IsName word name → IsRegister kind (word ∷ ts) (record { at = word.at; name = name; value = value })

module _ (number_sound : Sound number IsNumber) where
  no_value : (kind : NetKind) (ts : List Tok) (value : Option Expr) (rest : List Tok) → pure None ts ≡ Ok (value, rest) → (front : List Tok) × (ts ≡ front ++ rest) × RegisterValue kind front value
  no_value kind ts value rest e = ([], sym (left_is e), subst (λ (v : Option Expr). RegisterValue kind [] v) (sym (found_is e)) (λ word name h. IsRegister.plain kind word name h))

  number_value : (ts : List Tok) (value : Option Expr) (rest : List Tok) → assigned_number ts ≡ Ok (value, rest) → (front : List Tok) × (ts ≡ front ++ rest) × RegisterValue Reg front value
  unfolding assigned_number
  number_value ts value rest e = do
    (equals, ts1, e1, met, m1) ← mark_took (codes "=") _ ts value rest e
    (bits, ts2, was, m2) ← then_took (number ts1) _ value rest m1
    (front, e2, spelled) ← number_sound ts1 bits ts2 was
    (
      equals ∷ front,
      e1 ∙ ap (λ (xs : List Tok). equals ∷ xs) (e2 ∙ ap (λ (xs : List Tok). front ++ xs) (sym (left_is m2))),
      subst (λ (v : Option Expr). RegisterValue Reg (equals ∷ front) v) (sym (found_is m2 ∙ ap (λ (at : ℕ). Some (expr.Number at bits)) (ap place_of e2 ∙ number_place front bits ts2 spelled)))
          (λ word name h. IsRegister.initial word equals front name bits h met spelled),
    )

  register_value_took : (kind : NetKind) (ts : List Tok) (value : Option Expr) (rest : List Tok) → register_value kind ts ≡ Ok (value, rest) → (front : List Tok) × (ts ≡ front ++ rest) × RegisterValue kind front value
  register_value_took Plain ts value rest e = no_value Plain ts value rest e
  register_value_took Wire ts value rest e = no_value Wire ts value rest e
  register_value_took Reg ts value rest e = elim (word_took (codes "=") assigned_number (pure None) ts value rest e) [
    | inl (h, one) ↦ number_value ts value rest one
    | inr (h, none) ↦ no_value Reg ts value rest none
  ]

  pub register_sound : (kind : NetKind) → Sound (register kind) (IsRegister kind)
  unfolding register
  register_sound kind ts declared rest e = do
    (name, ts1, was1, m1) ← then_took (terminals.name ts) _ declared rest e
    (word, e1, h) ← name_took ts name ts1 was1
    (value, ts2, was2, m2) ← then_took (register_value kind ts1) _ declared rest m1
    (front, e2, v) ← register_value_took kind ts1 value ts2 was2
    (
      word ∷ front,
      e1 ∙ ap (λ (xs : List Tok). word ∷ xs) (e2 ∙ ap (λ (xs : List Tok). front ++ xs) (sym (left_is m2))),
      subst (λ (d : Declared). IsRegister kind (word ∷ front) d) (sym (found_is m2 ∙ ap (λ (at : ℕ). record { at = at; name = name; value = value }) (ap place_of e1))) (v word name h),
    )

  pub registers_sound : (shape : Shape) (ts : List Tok) (items : List Item) (rest : List Tok) → registers shape ts ≡ Ok (items, rest)
      → (front : List Tok) × (semi : Tok) × (ts ≡ (front ++ semi ∷ []) ++ rest) × Is (codes ";") semi × Gathered (spelling.register_items shape) (register shape.kind) (IsRegister shape.kind) front items
  unfolding registers
  registers_sound shape ts items rest e = do
    (found, ts1, was, m1) ← then_took (gathered (spelling.register_items shape) (register shape.kind) ts) _ items rest e
    (front, e1, all) ← gathered_sound (spelling.register_items shape) (register shape.kind) (IsRegister shape.kind) (register_sound shape.kind) ts found ts1 was
    (semi, ts2, e2, met, m2) ← mark_took (codes ";") _ ts1 items rest m1
    (parts, spelled, same) ← all
    (
      front,
      semi,
      e1 ∙ ap (λ (xs : List Tok). front ++ xs) (e2 ∙ ap (λ (xs : List Tok). semi ∷ xs) (sym (left_is m2))) ∙ sym (append_assoc front (semi ∷ []) rest),
      met,
      (parts, spelled, found_is m2 ∙ same),
    )

-- ---- the names of wires

module _ (expr_sound : (depth : ℕ) → Sound (exprs.expr depth) SpellsExpr) where
  abbrev WireValue : List Tok → Option Expr → Type 0
  WireValue ts value = (word : Tok) (name : List ℕ) → IsName word name → IsWire (word ∷ ts) (record { at = word.at; name = name; value = value })

  expr_value : (depth : ℕ) (ts : List Tok) (value : Option Expr) (rest : List Tok) → assigned_expr depth ts ≡ Ok (value, rest) → (front : List Tok) × (ts ≡ front ++ rest) × WireValue front value
  unfolding assigned_expr
  expr_value depth ts value rest e = do
    (equals, ts1, e1, met, m1) ← mark_took (codes "=") _ ts value rest e
    (right, ts2, was, m2) ← then_took (exprs.expr depth ts1) _ value rest m1
    (front, e2, spelled) ← expr_sound depth ts1 right ts2 was
    (
      equals ∷ front,
      e1 ∙ ap (λ (xs : List Tok). equals ∷ xs) (e2 ∙ ap (λ (xs : List Tok). front ++ xs) (sym (left_is m2))),
      subst (λ (v : Option Expr). WireValue (equals ∷ front) v) (sym (found_is m2)) (λ word name h. IsWire.assigned word equals front name right h met spelled),
    )

  wire_value_took : (depth : ℕ) (ts : List Tok) (value : Option Expr) (rest : List Tok) → wire_value depth ts ≡ Ok (value, rest) → (front : List Tok) × (ts ≡ front ++ rest) × WireValue front value
  wire_value_took depth ts value rest e = elim (word_took (codes "=") (assigned_expr depth) (pure None) ts value rest e) [
    | inl (h, one) ↦ expr_value depth ts value rest one
    | inr (h, none) ↦ ([], sym (left_is none), subst (λ (v : Option Expr). WireValue [] v) (sym (found_is none)) (λ word name h. IsWire.plain word name h))
  ]

  pub wire_sound : (depth : ℕ) → Sound (wire depth) IsWire
  unfolding wire
  wire_sound depth ts declared rest e = do
    (name, ts1, was1, m1) ← then_took (terminals.name ts) _ declared rest e
    (word, e1, h) ← name_took ts name ts1 was1
    (value, ts2, was2, m2) ← then_took (wire_value depth ts1) _ declared rest m1
    (front, e2, v) ← wire_value_took depth ts1 value ts2 was2
    (
      word ∷ front,
      e1 ∙ ap (λ (xs : List Tok). word ∷ xs) (e2 ∙ ap (λ (xs : List Tok). front ++ xs) (sym (left_is m2))),
      subst (λ (d : Declared). IsWire (word ∷ front) d) (sym (found_is m2 ∙ ap (λ (at : ℕ). record { at = at; name = name; value = value }) (ap place_of e1))) (v word name h),
    )

  pub wires_sound : (depth : ℕ) (shape : Shape) (ts : List Tok) (items : List Item) (rest : List Tok) → wires depth shape ts ≡ Ok (items, rest)
      → (front : List Tok) × (semi : Tok) × (ts ≡ (front ++ semi ∷ []) ++ rest) × Is (codes ";") semi × Gathered (spelling.wire_items shape) (wire depth) IsWire front items
  unfolding wires
  wires_sound depth shape ts items rest e = do
    (found, ts1, was, m1) ← then_took (gathered (spelling.wire_items shape) (wire depth) ts) _ items rest e
    (front, e1, all) ← gathered_sound (spelling.wire_items shape) (wire depth) IsWire (wire_sound depth) ts found ts1 was
    (semi, ts2, e2, met, m2) ← mark_took (codes ";") _ ts1 items rest m1
    (parts, spelled, same) ← all
    (
      front,
      semi,
      e1 ∙ ap (λ (xs : List Tok). front ++ xs) (e2 ∙ ap (λ (xs : List Tok). semi ∷ xs) (sym (left_is m2))) ∙ sym (append_assoc front (semi ∷ []) rest),
      met,
      (parts, spelled, found_is m2 ∙ same),
    )

-- ---- declarations

pub port_items_sound : Sound range IsRange → Sound number IsNumber → Sound port_items IsItem
unfolding port_items
port_items_sound range_sound number_sound ts items rest e = do
  (shape, ts1, was, m) ← then_took (port_shape ts) registers items rest e
  (ss, e1, s) ← port_shape_sound range_sound ts shape ts1 was
  (ns, semi, e2, met, all) ← registers_sound number_sound shape ts1 items rest m
  (names, spelled, same) ← all
  (
    ss ++ (ns ++ semi ∷ []),
    e1 ∙ ap (λ (xs : List Tok). ss ++ xs) e2 ∙ sym (append_assoc ss (ns ++ semi ∷ []) rest),
    subst (λ (found : List Item). IsItem (ss ++ (ns ++ semi ∷ [])) found) (sym same) (IsItem.port ss ns semi shape names s spelled met),
  )

pub reg_items_sound : Sound range IsRange → Sound number IsNumber → Sound reg_items IsItem
unfolding reg_items
reg_items_sound range_sound number_sound ts items rest e = do
  (word, ts1, e1, met1, m1) ← mark_took (codes "reg") _ ts items rest e
  (found, ts2, was, m2) ← then_took (any_range ts1) _ items rest m1
  (rs, e2, r) ← any_range_sound range_sound ts1 found ts2 was
  (ns, semi, e3, met, all) ← registers_sound number_sound (record { dir = None; kind = Reg; range = found }) ts2 items rest m2
  (names, spelled, same) ← all
  (
    word ∷ (rs ++ (ns ++ semi ∷ [])),
    e1 ∙ ap (λ (xs : List Tok). word ∷ xs) (e2 ∙ ap (λ (xs : List Tok). rs ++ xs) e3 ∙ sym (append_assoc rs (ns ++ semi ∷ []) rest)),
    subst (λ (found : List Item). IsItem (word ∷ (rs ++ (ns ++ semi ∷ []))) found) (sym same) (IsItem.reg word rs ns semi found names met1 r spelled met),
  )

pub wire_items_sound : Sound range IsRange → Sound any_delay (λ ts _. IsAnyDelay ts) → ((depth : ℕ) → Sound (exprs.expr depth) SpellsExpr) → (depth : ℕ) → Sound (wire_items depth) IsItem
unfolding wire_items
wire_items_sound range_sound delay_sound expr_sound depth ts items rest e = do
  (word, ts1, e1, met1, m1) ← mark_took (codes "wire") _ ts items rest e
  (found, ts2, was2, m2) ← then_took (any_range ts1) _ items rest m1
  (rs, e2, r) ← any_range_sound range_sound ts1 found ts2 was2
  (unit, ts3, was3, m3) ← then_took (any_delay ts2) _ items rest m2
  (ds, e3, d) ← delay_sound ts2 unit ts3 was3
  (ns, semi, e4, met, all) ← wires_sound expr_sound depth (record { dir = None; kind = Wire; range = found }) ts3 items rest m3
  (names, spelled, same) ← all
  (
    word ∷ (rs ++ (ds ++ (ns ++ semi ∷ []))),
    e1 ∙ ap (λ (xs : List Tok). word ∷ xs) (e2 ∙ ap (λ (xs : List Tok). rs ++ xs) (e3 ∙ ap (λ (xs : List Tok). ds ++ xs) e4 ∙ sym (append_assoc ds (ns ++ semi ∷ []) rest)) ∙ sym (append_assoc rs (ds ++ (ns ++ semi ∷ [])) rest)),
    subst (λ (found : List Item). IsItem (word ∷ (rs ++ (ds ++ (ns ++ semi ∷ [])))) found) (sym same) (IsItem.wire word rs ds ns semi found names met1 r d spelled met),
  )

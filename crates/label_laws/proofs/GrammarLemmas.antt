-- What is declared in a design that some bytes spell: its names are printable, and its ranges are short.
use Rattle.std.specs.Prelude.{◌≡◌, ℕ, List, [], ◌∷◌, ◌++◌, Bool, true, ◌&&◌, Option, Some, None, refl, nat_le}
use Rattle.std.specs.List.{flat_map, list_all}
use Rattle.std.proofs.Common.{ap, sym, ◌∙◌}
use Rattle.std.proofs.lemmas.Bool.{le-leb}
use Rattle.std.proofs.lemmas.List.Concat.{flat_map-cons}
use Rattle.bm_base.specs.declared.range.Range.{Range}
use Rattle.vlog_tokens.specs.Toks.{Tok}
use Rattle.vlog_tokens.specs.declared.token.TokenKind.{TokenKind}
use Rattle.vlog_tokens.specs.declared.token.TokenKind.TheVariants.{Based, Decimal, Escaped, Mark, System, Text, Word}
use Rattle.vlog_tree.specs.declared.design.Design.{Design}
use Rattle.vlog_tree.specs.declared.design.Module.{Module}
use Rattle.vlog_tree.specs.declared.item.Item.{Item}
use Rattle.vlog_tree.specs.declared.item.Item.TheVariants.{Decl}
use Rattle.vlog_tree.specs.declared.item.GateKind.{GateKind}
use Rattle.vlog_tree.specs.declared.item.NetKind.{NetKind}
use Rattle.vlog_tree.specs.declared.item.NetKind.TheVariants.{Reg, Wire}
use Rattle.vlog_tree.specs.Spelling.{Spells}
use Rattle.vlog_tree.specs.Spelling.Declarations.{Declared, IsPortShape, IsRegister, IsWire, Shape, register_items, wire_items}
use Rattle.vlog_tree.specs.Spelling.Gates.{IsInputGate, IsInstance, IsOutputGate}
use Rattle.vlog_tree.specs.Spelling.Items.{IsAssign, IsItem}
use Rattle.vlog_tree.specs.Spelling.Modules.{ArePorts, IsDesign, IsHeader, IsModule}
use Rattle.vlog_tree.specs.Spelling.Parts.{Commas, IsName, IsNameBy, IsRange, Many, Optional, Production}
use Rattle.label_laws.proofs.TokenLemmas.{all_joined, are_fit, both, first_is, front_fit, is_fit, is_fit_by, is_printable, rest_fit, second_is, tokens_fit}

-- ---- tests on the tree

-- no end of the range is above the greatest decimal
abbrev pub is_short : Option Range → Bool
is_short None = true
is_short (Some range) = nat_le range.left 2147483647 && nat_le range.right 2147483647

abbrev pub is_right : Item → Bool
is_right (Decl at dir kind range name) = is_printable name && is_short range
is_right other = true

abbrev pub module_is_right : Module → Bool
module_is_right m = is_printable m.name && list_all is_right m.items

abbrev pub design_is_right : Design → Bool
design_is_right design = list_all module_is_right design.modules

-- ---- lists

all_flat : {X Y : Type 0} (p : Y → Bool) (f : X → List Y) (xs : List X) → list_all (λ x. list_all p (f x)) xs ≡ true
    → list_all p (flat_map f xs) ≡ true
all_flat p f [] all = refl
all_flat p f (x ∷ xs) all =
    ap (list_all p) (flat_map-cons f x xs)
    ∙ all_joined p (f x) (flat_map f xs) (first_is (list_all p (f x)) (list_all (λ x. list_all p (f x)) xs) all)
    (all_flat p f xs (second_is (list_all p (f x)) (list_all (λ x. list_all p (f x)) xs) all))

-- Where the tokens of each part give that it passes, so do those of all parts.
commas_pass : {A : Type 0} (Spelled : Production A) (p : A → Bool)
    → ((ts : List Tok) (a : A) → Spelled ts a → are_fit ts ≡ true → p a ≡ true)
    → {ts : List Tok} {parts : List A} → Commas Spelled ts parts → are_fit ts ≡ true → list_all p parts ≡ true
commas_pass Spelled p each (Commas.last only a s) fit = both (p a) true (each only a s fit) refl
commas_pass Spelled p each (Commas.next first comma rest a others s is more) fit =
    both (p a) (list_all p others) (each first a s (front_fit first (comma ∷ rest) fit))
    (commas_pass Spelled p each more (second_is (is_fit comma) (are_fit rest) (rest_fit first (comma ∷ rest) fit)))

many_pass : {A : Type 0} (Spelled : Production A) (p : A → Bool)
    → ((ts : List Tok) (a : A) → Spelled ts a → are_fit ts ≡ true → p a ≡ true)
    → {ts : List Tok} {parts : List A} → Many Spelled ts parts → are_fit ts ≡ true → list_all p parts ≡ true
many_pass Spelled p each Many.none fit = refl
many_pass Spelled p each (Many.next first rest a others s more) fit =
    both (p a) (list_all p others) (each first a s (front_fit first rest fit))
    (many_pass Spelled p each more (rest_fit first rest fit))

-- ---- names and ranges

named : (kind : TokenKind) (text name : List ℕ) → IsNameBy kind text name → is_fit_by kind text ≡ true → is_printable name ≡ true
named Word text name is fit = ap is_printable is.1 ∙ fit
named Escaped text name is fit = sym (ap is_printable is) ∙ fit
named System text name is fit = absurd is
named Decimal text name is fit = absurd is
named Based text name is fit = absurd is
named Text text name is fit = absurd is
named Mark text name is fit = absurd is

name_printable : (word : Tok) (name : List ℕ) → IsName word name → is_fit word ≡ true → is_printable name ≡ true
name_printable word name is fit = named word.kind word.text name is fit

range_short : (ts : List Tok) (range : Range) → IsRange ts range → is_short (Some range) ≡ true
range_short _ _ (IsRange.range opening left colon right closing high low h1 is_high h2 is_low h3) =
    both (nat_le high 2147483647) (nat_le low 2147483647) (le-leb high 2147483647 is_high.2) (le-leb low 2147483647 is_low.2)

optional_short : (ts : List Tok) (range : Option Range) → Optional IsRange ts range → is_short range ≡ true
optional_short ts None is = refl
optional_short ts (Some range) is = range_short ts range is

-- ---- declarations

declared_right : (word : Tok) (name : List ℕ) (range : Option Range) → IsName word name → is_short range ≡ true
    → is_fit word ≡ true → (is_printable name && is_short range) ≡ true
declared_right word name range is short fit =
    both (is_printable name) (is_short range) (name_printable word name is fit) short

module _ (shape : Shape) (short : is_short shape.range ≡ true) where
  register_right : (kind : NetKind) (ts : List Tok) (declared : Declared) → IsRegister kind ts declared → are_fit ts ≡ true
      → list_all is_right (register_items shape declared) ≡ true
  register_right _ _ _ (IsRegister.plain kind word name h1) fit =
      both (is_printable name && is_short shape.range) true
      (declared_right word name shape.range h1 short (first_is (is_fit word) true fit)) refl
  register_right _ _ _ (IsRegister.initial word equals ts name bits h1 h2 h3) fit =
      both (is_printable name && is_short shape.range) true
      (declared_right word name shape.range h1 short (first_is (is_fit word) (is_fit equals && are_fit ts) fit)) refl

  wire_right : (ts : List Tok) (declared : Declared) → IsWire ts declared → are_fit ts ≡ true
      → list_all is_right (wire_items shape declared) ≡ true
  wire_right _ _ (IsWire.plain word name h1) fit =
      both (is_printable name && is_short shape.range) true
      (declared_right word name shape.range h1 short (first_is (is_fit word) true fit)) refl
  wire_right _ _ (IsWire.assigned word equals ts name right h1 h2 h3) fit =
      both (is_printable name && is_short shape.range) true
      (declared_right word name shape.range h1 short (first_is (is_fit word) (is_fit equals && are_fit ts) fit)) refl

  registers_right : (kind : NetKind) {ts : List Tok} {names : List Declared} → Commas (IsRegister kind) ts names → are_fit ts ≡ true
      → list_all is_right (flat_map (register_items shape) names) ≡ true
  registers_right kind {ts} {names} spelled fit =
      all_flat is_right (register_items shape) names
      (commas_pass (IsRegister kind) (λ declared. list_all is_right (register_items shape declared)) (register_right kind)
      spelled fit)

  wires_right : {ts : List Tok} {names : List Declared} → Commas IsWire ts names → are_fit ts ≡ true
      → list_all is_right (flat_map (wire_items shape) names) ≡ true
  wires_right {ts} {names} spelled fit =
      all_flat is_right (wire_items shape) names
      (commas_pass IsWire (λ declared. list_all is_right (wire_items shape declared)) wire_right spelled fit)

shape_short : (ts : List Tok) (shape : Shape) → IsPortShape ts shape → is_short shape.range ≡ true
shape_short _ _ (IsPortShape.port_shape word ks rs dir kind range h1 h2 h3) = optional_short rs range h3

-- ---- items

assign_right : (ts : List Tok) (one : Item) → IsAssign ts one → are_fit ts ≡ true → is_right one ≡ true
assign_right _ _ (IsAssign.assign front equals back target right h1 h2 h3) fit = refl

input_gate_right : (sort : GateKind) (ts : List Tok) (one : Item) → IsInputGate sort ts one → are_fit ts ≡ true → is_right one ≡ true
input_gate_right sort _ _ (IsInputGate.gate title opening outs comma ins closing name out inputs h1 h2 h3 h4 h5 h6) fit = refl

output_gate_right : (sort : GateKind) (ts : List Tok) (one : Item) → IsOutputGate sort ts one → are_fit ts ≡ true → is_right one ≡ true
output_gate_right sort _ _ (IsOutputGate.gate title opening outs comma ins closing name outputs input h1 h2 h3 h4 h5 h6) fit = refl

instance_right : (definition : List ℕ) (ts : List Tok) (one : Item) → IsInstance definition ts one → are_fit ts ≡ true
    → is_right one ≡ true
instance_right definition _ _ (IsInstance.instance word opening ts name links h1 h2 h3) fit = refl

-- the tokens between a word with those after it, and a semicolon
between : (word : Tok) (ds ts : List Tok) (semi : Tok) → are_fit (word ∷ (ds ++ (ts ++ semi ∷ []))) ≡ true → are_fit ts ≡ true
between word ds ts semi fit =
    front_fit ts (semi ∷ [])
    (rest_fit ds (ts ++ semi ∷ []) (second_is (is_fit word) (are_fit (ds ++ (ts ++ semi ∷ []))) fit))

items_right : (ts : List Tok) (items : List Item) → IsItem ts items → are_fit ts ≡ true → list_all is_right items ≡ true
items_right _ _ (IsItem.port ss ns semi shape names h1 h2 h3) fit =
    registers_right shape (shape_short ss shape h1) shape.kind h2 (front_fit ns (semi ∷ []) (rest_fit ss (ns ++ semi ∷ []) fit))
items_right _ _ (IsItem.wire word rs ds ns semi range names h1 h2 h3 h4 h5) fit =
    wires_right (record { dir = None; kind = Wire; range = range }) (optional_short rs range h2) h4
    (front_fit ns (semi ∷ []) (rest_fit ds (ns ++ semi ∷ [])
    (rest_fit rs (ds ++ (ns ++ semi ∷ [])) (second_is (is_fit word) (are_fit (rs ++ (ds ++ (ns ++ semi ∷ [])))) fit))))
items_right _ _ (IsItem.reg word rs ns semi range names h1 h2 h3 h4) fit =
    registers_right (record { dir = None; kind = Reg; range = range }) (optional_short rs range h2) Reg h3
    (between word rs ns semi fit)
items_right _ _ (IsItem.assign word ds ts semi assigns h1 h2 h3 h4) fit =
    commas_pass IsAssign is_right assign_right h3 (between word ds ts semi fit)
items_right _ _ (IsItem.input_gates word ds ts semi sort gates h1 h2 h3 h4) fit =
    commas_pass (IsInputGate sort) is_right (input_gate_right sort) h3 (between word ds ts semi fit)
items_right _ _ (IsItem.output_gates word ds ts semi sort gates h1 h2 h3 h4) fit =
    commas_pass (IsOutputGate sort) is_right (output_gate_right sort) h3 (between word ds ts semi fit)
items_right _ _ (IsItem.instances word ts semi definition instances h1 h2 h3) fit =
    commas_pass (IsInstance definition) is_right (instance_right definition) h2 (between word [] ts semi fit)
items_right _ _ (IsItem.always word event opening edge name closing ts clock body h1 h2 h3 h4 h5 h6 h7) fit = refl
items_right _ _ (IsItem.initial word name equals ts semi text bits h1 h2 h3 h4 h5) fit = refl

-- ---- headers, modules and designs

ports_right : (shape : Shape) (ts : List Tok) (names : List (List ℕ)) (items : List Item) → ArePorts shape ts names items
    → is_short shape.range ≡ true → are_fit ts ≡ true → list_all is_right items ≡ true
ports_right _ _ _ _ (ArePorts.last shape ts declared h1) short fit = register_right shape short shape.kind ts declared h1 fit
ports_right _ _ _ _ (ArePorts.same shape ts comma rest declared names items h1 h2 more) short fit =
    all_joined is_right (register_items shape declared) items
    (register_right shape short shape.kind ts declared h1 (front_fit ts (comma ∷ rest) fit))
    (ports_right shape rest names items more short (second_is (is_fit comma) (are_fit rest) (rest_fit ts (comma ∷ rest) fit)))
ports_right _ _ _ _ (ArePorts.other shape ts comma ss rest next declared names items h1 h2 h3 more) short fit =
    all_joined is_right (register_items shape declared) items
    (register_right shape short shape.kind ts declared h1 (front_fit ts (comma ∷ (ss ++ rest)) fit))
    (ports_right next rest names items more (shape_short ss next h3)
    (rest_fit ss rest (second_is (is_fit comma) (are_fit (ss ++ rest)) (rest_fit ts (comma ∷ (ss ++ rest)) fit))))

header_right : (ts : List Tok) (ports : List (List ℕ)) (items : List Item) → IsHeader ts ports items → are_fit ts ≡ true
    → list_all is_right items ≡ true
header_right _ _ _ IsHeader.none fit = refl
header_right _ _ _ (IsHeader.empty opening closing h1 h2) fit = refl
header_right _ _ _ (IsHeader.names opening ts closing ports h1 h2 h3) fit = refl
header_right _ _ _ (IsHeader.ports opening ss ts closing shape ports items h1 h2 h3 h4) fit =
    ports_right shape ts ports items h3 (shape_short ss shape h2) (between opening ss ts closing fit)

module_right : (ts : List Tok) (m : Module) → IsModule ts m → are_fit ts ≡ true → module_is_right m ≡ true
module_right _ _ (IsModule.module_of word name hs semi ts last text ports declared items h1 h2 header h3 spelled h4) fit =
    let after : List Tok = hs ++ semi ∷ (ts ++ last ∷ []) in
    let from_name : are_fit (name ∷ after) ≡ true = second_is (is_fit word) (are_fit (name ∷ after)) fit in
    let from_header : are_fit after ≡ true = second_is (is_fit name) (are_fit after) from_name in
    let body : are_fit (ts ++ last ∷ []) ≡ true =
    second_is (is_fit semi) (are_fit (ts ++ last ∷ [])) (rest_fit hs (semi ∷ (ts ++ last ∷ [])) from_header) in
    both (is_printable text) (list_all is_right (declared ++ flat_map (λ group. group) items))
    (name_printable name text h2 (first_is (is_fit name) (are_fit after) from_name))
    (all_joined is_right declared (flat_map (λ group. group) items)
    (header_right hs ports declared header (front_fit hs (semi ∷ (ts ++ last ∷ [])) from_header))
    (all_flat is_right (λ group. group) items
    (many_pass IsItem (list_all is_right) items_right spelled (front_fit ts (last ∷ []) body))))

design_right : (ts : List Tok) (design : Design) → IsDesign ts design → are_fit ts ≡ true → design_is_right design ≡ true
design_right _ _ (IsDesign.design ts modules spelled) fit = many_pass IsModule module_is_right module_right spelled fit

-- In a design that some bytes spell the declared names and those of modules are printable, and ranges are short.
pub spelled_right : (bytes : List ℕ) (design : Design) → Spells bytes design → design_is_right design ≡ true
spelled_right bytes design spells = design_right spells.tokens design spells.spell (tokens_fit bytes spells.tokens spells.are)

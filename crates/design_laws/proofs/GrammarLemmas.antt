-- What each production of the grammar gives.
use Rattle.std.specs.Prelude.{◌≡◌, ℕ, List, [], ◌∷◌, ◌++◌, Bool, true, false, ◌&&◌, Option, Some, None, refl, codes, if◌then◌else◌, length, unwrap_or}
use Rattle.std.specs.List.{flat_map, list_all}
use Rattle.std.specs.Str.{bytes_eq}
use Rattle.std.proofs.Common.{ap, sym, ◌∙◌}
use Rattle.std.proofs.lemmas.Option.{none-some}
use Rattle.std.proofs.lemmas.List.Folds.{list_all-append}
use Rattle.std.proofs.lemmas.List.Concat.{flat_map-cons}
use Rattle.vlog_tokens.specs.Toks.{Tok}
use Rattle.lowering.specs.Meaning.{takes}
use Rattle.vlog_tree.specs.declared.design.Design.{Design}
use Rattle.vlog_tree.specs.declared.design.Module.{Module}
use Rattle.vlog_tree.specs.declared.item.GateKind.{GateKind}
use Rattle.vlog_tree.specs.declared.item.GateKind.TheVariants as kind
use Rattle.vlog_tree.specs.declared.item.Item.{Item}
use Rattle.vlog_tree.specs.declared.item.NetKind.{NetKind}
use Rattle.vlog_tree.specs.Spelling.{Spells}
use Rattle.vlog_tree.specs.Spelling.Declarations.{Declared, IsRegister, IsWire, Shape, register_items, wire_items}
use Rattle.vlog_tree.specs.Spelling.Gates.{IsInputGate, IsInstance, IsOutputGate, input_gate}
use Rattle.vlog_tree.specs.Spelling.Items.{IsAssign, IsItem}
use Rattle.vlog_tree.specs.Spelling.Modules.{ArePorts, IsDesign, IsHeader, IsModule}
use Rattle.vlog_tree.specs.Spelling.Parts.{Commas, Many, Production, terminal}
use Rattle.design_laws.specs.Grammar.{design_is_by_grammar, is_by_grammar, module_is_by_grammar}

-- ---- lists

both : (first second : Bool) → first ≡ true → second ≡ true → (first && second) ≡ true
both true true one two = refl
both true false one two = two
both false second one two = one

first_of : (first second : Bool) → (first && second) ≡ true → first ≡ true
first_of true second is = refl
first_of false second is = is

second_of : (first second : Bool) → (first && second) ≡ true → second ≡ true
second_of true second is = is
second_of false true is = refl
second_of false false is = is

all_append : {X : Type 0} (p : X → Bool) (xs ys : List X) → list_all p xs ≡ true → list_all p ys ≡ true → list_all p (xs ++ ys) ≡ true
all_append p xs ys one two = list_all-append p xs ys ∙ both (list_all p xs) (list_all p ys) one two

all_flat : {X Y : Type 0} (p : Y → Bool) (f : X → List Y) (xs : List X) → list_all (λ x. list_all p (f x)) xs ≡ true → list_all p (flat_map f xs) ≡ true
all_flat p f [] all = refl
all_flat p f (x ∷ xs) all =
    ap (list_all p) (flat_map-cons f x xs)
    ∙ all_append p (f x) (flat_map f xs) (first_of (list_all p (f x)) (list_all (λ x. list_all p (f x)) xs) all)
    (all_flat p f xs (second_of (list_all p (f x)) (list_all (λ x. list_all p (f x)) xs) all))

commas_all : {A : Type 0} (Spelled : Production A) (p : A → Bool) → ((ts : List Tok) (a : A) → Spelled ts a → p a ≡ true)
    → {ts : List Tok} {parts : List A} → Commas Spelled ts parts → list_all p parts ≡ true
commas_all Spelled p each (Commas.last only a s) = both (p a) true (each only a s) refl
commas_all Spelled p each (Commas.next first comma rest a others s is more) =
    both (p a) (list_all p others) (each first a s) (commas_all Spelled p each more)

many_all : {A : Type 0} (Spelled : Production A) (p : A → Bool) → ((ts : List Tok) (a : A) → Spelled ts a → p a ≡ true)
    → {ts : List Tok} {parts : List A} → Many Spelled ts parts → list_all p parts ≡ true
many_all Spelled p each Many.none = refl
many_all Spelled p each (Many.next first rest a others s more) =
    both (p a) (list_all p others) (each first a s) (many_all Spelled p each more)

-- ---- gates

takes_one : (sort : GateKind) → takes sort 1 ≡ true
takes_one kind.And = refl
takes_one kind.Nand = refl
takes_one kind.Or = refl
takes_one kind.Nor = refl
takes_one kind.Xor = refl
takes_one kind.Xnor = refl
takes_one kind.Buf = refl
takes_one kind.Not = refl

choice : (test : Bool) (first : GateKind) (others : Option GateKind) (sort : GateKind) (count : ℕ) → takes first count ≡ true
    → (others ≡ Some sort → takes sort count ≡ true) → (if test then Some first else others) ≡ Some sort → takes sort count ≡ true
choice true first others sort count fits later is = sym (ap (λ one. takes (unwrap_or one kind.And) count) is) ∙ fits
choice false first others sort count fits later is = later is

none_takes : (sort : GateKind) (count : ℕ) → None ≡ Some sort → takes sort count ≡ true
none_takes sort count is = absurd (none-some sort is)

input_takes : (text : List ℕ) (sort : GateKind) (count : ℕ) → input_gate text ≡ Some sort → takes sort count ≡ true
input_takes text sort count =
    choice (bytes_eq text (codes "and")) kind.And _ sort count refl
    (choice (bytes_eq text (codes "nand")) kind.Nand _ sort count refl
    (choice (bytes_eq text (codes "or")) kind.Or _ sort count refl
    (choice (bytes_eq text (codes "nor")) kind.Nor _ sort count refl
    (choice (bytes_eq text (codes "xor")) kind.Xor _ sort count refl
    (choice (bytes_eq text (codes "xnor")) kind.Xnor None sort count refl (none_takes sort count))))))

input_gate_is : (sort : GateKind) → ((count : ℕ) → takes sort count ≡ true) → (ts : List Tok) (one : Item) → IsInputGate sort ts one → is_by_grammar one ≡ true
input_gate_is sort fits _ _ (IsInputGate.gate title opening outs comma ins closing name out inputs h1 h2 h3 h4 h5 h6) = fits (length inputs)

output_gate_is : (sort : GateKind) (ts : List Tok) (one : Item) → IsOutputGate sort ts one → is_by_grammar one ≡ true
output_gate_is sort _ _ (IsOutputGate.gate title opening outs comma ins closing name outputs input h1 h2 h3 h4 h5 h6) = takes_one sort

instance_is : (definition : List ℕ) (ts : List Tok) (one : Item) → IsInstance definition ts one → is_by_grammar one ≡ true
instance_is definition _ _ (IsInstance.instance word opening ts name links h1 h2 h3) = refl

assign_is : (ts : List Tok) (one : Item) → IsAssign ts one → is_by_grammar one ≡ true
assign_is _ _ (IsAssign.assign front equals back target right h1 h2 h3) = refl

-- ---- declarations

register_is : (shape : Shape) (sort : NetKind) (ts : List Tok) (declared : Declared) → IsRegister sort ts declared
    → list_all is_by_grammar (register_items shape declared) ≡ true
register_is shape _ _ _ (IsRegister.plain sort word name h1) = refl
register_is shape _ _ _ (IsRegister.initial word equals ts name bits h1 h2 h3) = refl

wire_is : (shape : Shape) (ts : List Tok) (declared : Declared) → IsWire ts declared → list_all is_by_grammar (wire_items shape declared) ≡ true
wire_is shape _ _ (IsWire.plain word name h1) = refl
wire_is shape _ _ (IsWire.assigned word equals ts name right h1 h2 h3) = refl

registers_are : (shape : Shape) (sort : NetKind) {ts : List Tok} {names : List Declared} → Commas (IsRegister sort) ts names
    → list_all is_by_grammar (flat_map (register_items shape) names) ≡ true
registers_are shape sort {ts} {names} spelled =
    all_flat is_by_grammar (register_items shape) names
    (commas_all (IsRegister sort) (λ declared. list_all is_by_grammar (register_items shape declared)) (register_is shape sort) spelled)

wires_are : (shape : Shape) {ts : List Tok} {names : List Declared} → Commas IsWire ts names
    → list_all is_by_grammar (flat_map (wire_items shape) names) ≡ true
wires_are shape {ts} {names} spelled =
    all_flat is_by_grammar (wire_items shape) names
    (commas_all IsWire (λ declared. list_all is_by_grammar (wire_items shape declared)) (wire_is shape) spelled)

-- ---- items, modules and designs

items_are : (ts : List Tok) (items : List Item) → IsItem ts items → list_all is_by_grammar items ≡ true
items_are _ _ (IsItem.port ss ns semi shape names h1 h2 h3) = registers_are shape shape.kind h2
items_are _ _ (IsItem.wire word rs ds ns semi range names h1 h2 h3 h4 h5) = wires_are _ h4
items_are _ _ (IsItem.reg word rs ns semi range names h1 h2 h3 h4) = registers_are _ _ h3
items_are _ _ (IsItem.assign word ds ts semi assigns h1 h2 h3 h4) = commas_all IsAssign is_by_grammar assign_is h3
items_are _ _ (IsItem.input_gates word ds ts semi sort gates is h1 h2 h3) =
    commas_all (IsInputGate sort) is_by_grammar (input_gate_is sort (λ count. input_takes (terminal word) sort count is)) h2
items_are _ _ (IsItem.output_gates word ds ts semi sort gates is h1 h2 h3) =
    commas_all (IsOutputGate sort) is_by_grammar (output_gate_is sort) h2
items_are _ _ (IsItem.instances word ts semi definition instances h1 h2 h3) =
    commas_all (IsInstance definition) is_by_grammar (instance_is definition) h2
items_are _ _ (IsItem.always word event opening edge name closing ts clock body h1 h2 h3 h4 h5 h6 h7) = refl
items_are _ _ (IsItem.initial word name equals ts semi text bits h1 h2 h3 h4 h5) = refl

ports_are : (shape : Shape) (ts : List Tok) (names : List (List ℕ)) (items : List Item) → ArePorts shape ts names items
    → list_all is_by_grammar items ≡ true
ports_are _ _ _ _ (ArePorts.last shape ts declared h1) = register_is shape shape.kind ts declared h1
ports_are _ _ _ _ (ArePorts.same shape ts comma rest declared names items h1 h2 more) =
    all_append is_by_grammar (register_items shape declared) items (register_is shape shape.kind ts declared h1)
    (ports_are shape rest names items more)
ports_are _ _ _ _ (ArePorts.other shape ts comma ss rest next declared names items h1 h2 h3 more) =
    all_append is_by_grammar (register_items shape declared) items (register_is shape shape.kind ts declared h1)
    (ports_are next rest names items more)

header_is : (ts : List Tok) (ports : List (List ℕ)) (items : List Item) → IsHeader ts ports items → list_all is_by_grammar items ≡ true
header_is _ _ _ IsHeader.none = refl
header_is _ _ _ (IsHeader.empty opening closing h1 h2) = refl
header_is _ _ _ (IsHeader.names opening ts closing ports h1 h2 h3) = refl
header_is _ _ _ (IsHeader.ports opening ss ts closing shape ports items h1 h2 h3 h4) = ports_are shape ts ports items h3

module_is : (ts : List Tok) (m : Module) → IsModule ts m → module_is_by_grammar m ≡ true
module_is _ _ (IsModule.module_of word name hs semi ts last text ports declared items h1 h2 header h3 spelled h4) =
    all_append is_by_grammar declared (flat_map (λ group. group) items) (header_is hs ports declared header)
    (all_flat is_by_grammar (λ group. group) items (many_all IsItem (list_all is_by_grammar) items_are spelled))

design_is : (ts : List Tok) (design : Design) → IsDesign ts design → design_is_by_grammar design ≡ true
design_is _ _ (IsDesign.design ts modules spelled) = many_all IsModule module_is_by_grammar module_is spelled

pub designs_are : (bytes : List ℕ) (design : Design) → Spells bytes design → design_is_by_grammar design ≡ true
designs_are bytes design spells = design_is spells.tokens design spells.spell

-- What the table of a module's names tells of what declarations call them.
use Rattle.std.proofs.Common.{◌≡◌, List, [], ◌∷◌, Bool, true, false, ◌||◌, ◌&&◌, cond, Option, Some, None, is_some, refl, ap, sym, ◌∙◌}
use Rattle.std.specs.List.{find, list_any}
use Rattle.std.specs.Option.{option_map, option_or}
use Rattle.bm_base.specs.declared.range.Range.{Range}
use Rattle.vlog_tree.specs.declared.design.Module.{Module}
use Rattle.vlog_tree.specs.declared.item.Dir.TheVariants.{Input, Output}
use Rattle.vlog_tree.specs.declared.item.Item.{Item}
use Rattle.vlog_tree.specs.declared.item.Item.TheVariants.{Always, Assign, Decl, Gate, Initial, Instance}
use Rattle.vlog_tree.specs.declared.item.NetKind.TheVariants.{Plain, Reg, Wire}
use Rattle.vlog_tree.specs.Meaning.Names.{declares, declares_input, declares_output, declares_register, is_implicit, is_input, is_output, is_register}
use Rattle.vlog_tree.specs.Meaning.Ranges.{declared_range, range_of, scalar}
use Rattle.vlog_tree.specs.Meaning.Uses.{Text}
use Rattle.nets.specs.Nets.{Net, net_of, net_with}

both : (b : Bool) → (b && b) ≡ b
both true = refl
both false = refl

-- ---- an item that calls a name something declares it

input_declares : (name : Text) (i : Item) → (declares_input name i && declares name i) ≡ declares_input name i
input_declares name (Decl at (Some Input) kind range other) = both _
input_declares name (Decl at (Some Output) kind range other) = refl
input_declares name (Decl at None kind range other) = refl
input_declares name (Assign at left right) = refl
input_declares name (Gate at kind other outs ins) = refl
input_declares name (Instance at inner other links) = refl
input_declares name (Always at clock body) = refl
input_declares name (Initial at other value) = refl

output_declares : (name : Text) (i : Item) → (declares_output name i && declares name i) ≡ declares_output name i
output_declares name (Decl at (Some Output) kind range other) = both _
output_declares name (Decl at (Some Input) kind range other) = refl
output_declares name (Decl at None kind range other) = refl
output_declares name (Assign at left right) = refl
output_declares name (Gate at kind other outs ins) = refl
output_declares name (Instance at inner other links) = refl
output_declares name (Always at clock body) = refl
output_declares name (Initial at other value) = refl

register_declares : (name : Text) (i : Item) → (declares_register name i && declares name i) ≡ declares_register name i
register_declares name (Decl at dir Reg range other) = both _
register_declares name (Decl at dir Wire range other) = refl
register_declares name (Decl at dir Plain range other) = refl
register_declares name (Assign at left right) = refl
register_declares name (Gate at kind other outs ins) = refl
register_declares name (Instance at inner other links) = refl
register_declares name (Always at clock body) = refl
register_declares name (Initial at other value) = refl

-- ---- so a name that is called something has a range

is_found : {X : Type 0} (test : X → Bool) (xs : List X) → is_some (find test xs) ≡ list_any test xs
is_found test [] = refl
is_found {X = X} test (x ∷ xs) = by (test x) (is_found test xs)
  where
    by : (b : Bool) → is_some (find test xs) ≡ list_any test xs → is_some (cond b (Some x) (find test xs)) ≡ (b || list_any test xs)
    by true is = refl
    by false is = is

any_narrow : {X : Type 0} (narrow wide : X → Bool) → ((x : X) → (narrow x && wide x) ≡ narrow x) → (xs : List X)
    → (list_any wide xs && list_any narrow xs) ≡ list_any narrow xs
any_narrow narrow wide is [] = refl
any_narrow narrow wide is (x ∷ xs) = by (narrow x) (wide x) (list_any wide xs) (list_any narrow xs) (is x) (any_narrow narrow wide is xs)
  where
    by : (a b c d : Bool) → (a && b) ≡ a → (c && d) ≡ d → ((b || c) && (a || d)) ≡ (a || d)
    by a true c d here there = refl
    by false false c d here there = there
    by true false c d here there = by_false c d here
      where
        by_false : (c d : Bool) → false ≡ true → (c && true) ≡ true
        by_false true d is = refl
        by_false false d is = is

has_range : (m : Module) (name : Text) (calls : Item → Bool) → ((i : Item) → (calls i && declares name i) ≡ calls i)
    → (is_some (range_of m name) && list_any calls m.items) ≡ list_any calls m.items
has_range m name calls declared =
    by (find (declares name) m.items) (cond (is_implicit m name) (Some scalar) None) (list_any calls m.items)
    (ap (λ b. b && list_any calls m.items) (is_found (declares name) m.items) ∙ any_narrow calls (declares name) declared m.items)
  where
    by : (found : Option Item) (other : Option Range) (b : Bool) → (is_some found && b) ≡ b
        → (is_some (option_or (option_map declared_range found) other) && b) ≡ b
    by (Some item) other b is = refl
    by None (Some range) b is = refl
    by None None b is = is

-- ---- what the table tells

abbrev pub tells_input : Option Net → Bool
tells_input None = false
tells_input (Some net) = net.is_input

pub input_told : (m : Module) (name : Text) → tells_input (net_of m name) ≡ is_input m name
input_told m name = first (range_of m name) ∙ has_range m name (declares_input name) (input_declares name)
  where
    first : (range : Option Range) → tells_input (option_map (net_with m name) range) ≡ (is_some range && is_input m name)
    first None = refl
    first (Some range) = refl

abbrev pub tells_output : Option Net → Bool
tells_output None = false
tells_output (Some net) = net.is_output

pub output_told : (m : Module) (name : Text) → tells_output (net_of m name) ≡ is_output m name
output_told m name = first (range_of m name) ∙ has_range m name (declares_output name) (output_declares name)
  where
    first : (range : Option Range) → tells_output (option_map (net_with m name) range) ≡ (is_some range && is_output m name)
    first None = refl
    first (Some range) = refl

abbrev pub tells_register : Option Net → Bool
tells_register None = false
tells_register (Some net) = net.is_register

pub register_told : (m : Module) (name : Text) → tells_register (net_of m name) ≡ is_register m name
register_told m name = first (range_of m name) ∙ has_range m name (declares_register name) (register_declares name)
  where
    first : (range : Option Range) → tells_register (option_map (net_with m name) range) ≡ (is_some range && is_register m name)
    first None = refl
    first (Some range) = refl

-- A name of which nothing is told is called nothing.
pub no_input : (m : Module) (name : Text) → net_of m name ≡ None → is_input m name ≡ false
no_input m name none = sym (input_told m name) ∙ ap tells_input none

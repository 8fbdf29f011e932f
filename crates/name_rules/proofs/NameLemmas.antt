-- Names, and what the table of a module's names tells of them.
use Rattle.std.proofs.Common.{◌≡◌, List, [], ◌∷◌, Bool, true, false, not, ◌||◌, ◌&&◌, cond, Option, Some, None, is_some, flat_map, refl, sym, ap, ◌∙◌}
use Rattle.std.specs.List.{find, list_any}
use Rattle.std.specs.Map.{update}
use Rattle.std.specs.Option.{option_map, option_or}
use Rattle.std.specs.Str.{bytes_eq}
use Rattle.std.proofs.lemmas.Slice.Eq.{bytes_eq-Decides}
use Rattle.bm_base.specs.declared.range.Range.{Range}
use Rattle.vlog_tree.specs.declared.design.Module.{Module}
use Rattle.vlog_tree.specs.declared.item.Dir.TheVariants.{Input, Output}
use Rattle.vlog_tree.specs.declared.item.Item.{Item}
use Rattle.vlog_tree.specs.declared.item.Item.TheVariants.{Always, Assign, Decl, Gate, Initial, Instance}
use Rattle.vlog_tree.specs.Meaning.Names.{declares, declares_input, declares_output, is_declared, is_implicit, is_input, is_named, is_output}
use Rattle.vlog_tree.specs.Meaning.Ranges.{declared_range, range_of, scalar}
use Rattle.vlog_tree.specs.Meaning.Uses.{Text, implicit_uses}
use Rattle.nets.specs.Nets.{Net, net_of, net_with}
use Rattle.name_rules.specs.Declarations.{directs}

pub same_bytes : (xs ys : Text) → bytes_eq xs ys ≡ true → xs ≡ ys
same_bytes xs ys is = (bytes_eq-Decides xs ys).0 is

pub bytes_eq_self : (xs : Text) → bytes_eq xs xs ≡ true
bytes_eq_self xs = (bytes_eq-Decides xs xs).1 refl

pub bytes_eq_sym : (xs ys : Text) → bytes_eq xs ys ≡ bytes_eq ys xs
bytes_eq_sym xs ys = by (bytes_eq xs ys) (bytes_eq ys xs) refl refl
  where
    by : (b c : Bool) → bytes_eq xs ys ≡ b → bytes_eq ys xs ≡ c → b ≡ c
    by true true there back = refl
    by false false there back = refl
    by true false there back = sym ((bytes_eq-Decides ys xs).1 (sym (same_bytes xs ys there))) ∙ back
    by false true there back = sym there ∙ (bytes_eq-Decides xs ys).1 (sym (same_bytes ys xs back))

pub or_false : (b : Bool) → (b || false) ≡ b
or_false true = refl
or_false false = refl

-- one name more
pub name_added : {X : Type 0} (old : Text → Option X) (name other : Text) (x : X) (now : Option X)
    → now ≡ update bytes_eq old name (Some x) other → is_some now ≡ (is_some (old other) || bytes_eq name other)
name_added {X = X} old name other x now is = ap is_some is ∙ by (bytes_eq name other) (old other)
  where
    by : (b : Bool) (known : Option X) → is_some (cond b (Some x) known) ≡ (is_some known || b)
    by true (Some y) = refl
    by true None = refl
    by false (Some y) = refl
    by false None = refl

-- ---- what the table tells

is_found : {X : Type 0} (test : X → Bool) (xs : List X) → is_some (find test xs) ≡ list_any test xs
is_found test [] = refl
is_found {X = X} test (x ∷ xs) = by (test x) (is_found test xs)
  where
    by : (b : Bool) → is_some (find test xs) ≡ list_any test xs → is_some (cond b (Some x) (find test xs)) ≡ (b || list_any test xs)
    by true is = refl
    by false is = is

abbrev pub tells_implicit : Option Net → Bool
tells_implicit None = false
tells_implicit (Some net) = not net.is_declared

pub implicit_told : (m : Module) (name : Text) → tells_implicit (net_of m name) ≡ is_implicit m name
implicit_told m name =
    first (range_of m name)
    ∙ ap (λ b. is_some (range_of m name) && not b) (sym (is_found (declares name) m.items))
    ∙ ap (λ b. is_some (option_or (option_map declared_range (find (declares name) m.items)) (cond (not b && used) (Some scalar) None)) && not (is_some (find (declares name) m.items))) (sym (is_found (declares name) m.items))
    ∙ by (find (declares name) m.items) used
    ∙ ap (λ b. not b && used) (is_found (declares name) m.items)
  where
    used : Bool
    used = list_any (is_named name) (flat_map implicit_uses m.items)

    first : (range : Option Range) → tells_implicit (option_map (net_with m name) range) ≡ (is_some range && not (is_declared m name))
    first None = refl
    first (Some range) = refl

    by : (found : Option Item) (b : Bool)
        → (is_some (option_or (option_map declared_range found) (cond (not (is_some found) && b) (Some scalar) None)) && not (is_some found))
        ≡ (not (is_some found) && b)
    by (Some item) b = refl
    by None true = refl
    by None false = refl

abbrev pub tells_direction : Option Net → Bool
tells_direction None = false
tells_direction (Some net) = net.is_input || net.is_output

-- a declaration with a direction says `input` or `output`
directed : (name : Text) (i : Item) → directs name i ≡ (declares_input name i || declares_output name i)
directed name (Decl at (Some Input) kind range other) = sym (or_false (bytes_eq other name))
directed name (Decl at (Some Output) kind range other) = refl
directed name (Decl at None kind range other) = refl
directed name (Assign at left right) = refl
directed name (Gate at kind other outs ins) = refl
directed name (Instance at inner other links) = refl
directed name (Always at clock body) = refl
directed name (Initial at other value) = refl

-- and it is a declaration
declared : (name : Text) (i : Item) → (directs name i && declares name i) ≡ directs name i
declared name (Decl at (Some dir) kind range other) = by (bytes_eq other name)
  where
    by : (b : Bool) → (b && b) ≡ b
    by true = refl
    by false = refl
declared name (Decl at None kind range other) = refl
declared name (Assign at left right) = refl
declared name (Gate at kind other outs ins) = refl
declared name (Instance at inner other links) = refl
declared name (Always at clock body) = refl
declared name (Initial at other value) = refl

any_either : {X : Type 0} (either one other : X → Bool) → ((x : X) → either x ≡ (one x || other x)) → (xs : List X)
    → list_any either xs ≡ (list_any one xs || list_any other xs)
any_either either one other is [] = refl
any_either either one other is (x ∷ xs) =
    ap (λ b. b || list_any either xs) (is x) ∙ ap (λ b. (one x || other x) || b) (any_either either one other is xs)
    ∙ by (one x) (other x) (list_any one xs) (list_any other xs)
  where
    by : (a b c d : Bool) → ((a || b) || (c || d)) ≡ ((a || c) || (b || d))
    by true b c d = refl
    by false true true d = refl
    by false true false d = refl
    by false false c d = refl

any_narrow : {X : Type 0} (narrow wide : X → Bool) → ((x : X) → (narrow x && wide x) ≡ narrow x) → (xs : List X)
    → (list_any wide xs && list_any narrow xs) ≡ list_any narrow xs
any_narrow narrow wide is [] = refl
any_narrow narrow wide is (x ∷ xs) = by (narrow x) (wide x) (list_any wide xs) (list_any narrow xs) (is x) (any_narrow narrow wide is xs)
  where
    by : (a b c d : Bool) → (a && b) ≡ a → (c && d) ≡ d → ((b || c) && (a || d)) ≡ (a || d)
    by a true c d here there = refl
    by false false c d here there = there
    by true false c d here there = by_false c d here
      where
        by_false : (c d : Bool) → false ≡ true → (c && true) ≡ true
        by_false true d is = refl
        by_false false d is = is

pub direction_told : (m : Module) (name : Text) → tells_direction (net_of m name) ≡ list_any (directs name) m.items
direction_told m name =
    first (range_of m name)
    ∙ ap (λ b. is_some (range_of m name) && b) (sym (any_either (directs name) (declares_input name) (declares_output name) (directed name) m.items))
    ∙ by (find (declares name) m.items) (cond (is_implicit m name) (Some scalar) None) (list_any (directs name) m.items)
    (ap (λ b. b && list_any (directs name) m.items) (is_found (declares name) m.items) ∙ any_narrow (directs name) (declares name) (declared name) m.items)
  where
    first : (range : Option Range) → tells_direction (option_map (net_with m name) range) ≡ (is_some range && (is_input m name || is_output m name))
    first None = refl
    first (Some range) = refl

    by : (found : Option Item) (other : Option Range) (b : Bool) → (is_some found && b) ≡ b
        → (is_some (option_or (option_map declared_range found) other) && b) ≡ b
    by (Some item) other b is = refl
    by None (Some range) b is = refl
    by None None b is = is

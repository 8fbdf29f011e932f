-- What the declarations and the uses of a module say of a name is what the module says of it.
use Rattle.std.proofs.Common.{◌≡◌, ℕ, List, [], ◌∷◌, Bool, true, false, not, ◌||◌, ◌&&◌, cond, Option, Some, None, is_some, refl, sym, ap, ◌∙◌, flat_map}
use Rattle.std.proofs.Math.Bool.{or_assoc}
use Rattle.std.specs.List.{cons_option, filter_map, find, list_any}
use Rattle.std.specs.Option.{option_map, option_or, unwrap_or}
use Rattle.std.specs.Str.{bytes_eq}
use Rattle.bm_base.specs.declared.range.Range.{Range}
use Rattle.vlog_tree.specs.declared.design.Module.{Module}
use Rattle.vlog_tree.specs.declared.item.Dir.{Dir}
use Rattle.vlog_tree.specs.declared.item.Dir.TheVariants.{Input, Output}
use Rattle.vlog_tree.specs.declared.item.Item.{Item}
use Rattle.vlog_tree.specs.declared.item.Item.TheVariants.{Always, Assign, Decl, Gate, Initial, Instance}
use Rattle.vlog_tree.specs.declared.item.NetKind.{NetKind}
use Rattle.vlog_tree.specs.declared.item.NetKind.TheVariants.{Plain, Reg, Wire}
use Rattle.vlog_tree.specs.Meaning.Names.{declares, declares_input, declares_output, declares_register, is_declared, is_implicit, is_named}
use Rattle.vlog_tree.specs.Meaning.Ranges.{declared_range, scalar}
use Rattle.vlog_tree.specs.Meaning.Uses.{Text, implicit_uses}
use Rattle.nets.specs.Declaring.{after_item, after_items, declared_again, first_declared, implicit_net}
use Rattle.nets.specs.Marks.{calls_input, calls_output, calls_register}
use Rattle.nets.specs.Nets.{Net, first_of, first_use, net_of, place_in, written_in}
use Rattle.nets.proofs.KeptLemmas.{option_or_none, or_false}

and_true : (b : Bool) → b ≡ (b && true)
and_true true = refl
and_true false = refl

and_false : (b : Bool) → false ≡ (b && false)
and_false true = refl
and_false false = refl

or_true : (b : Bool) → true ≡ (b || true)
or_true true = refl
or_true false = refl

-- what a declaration calls its name
input_of : (name : Text) (at : ℕ) (dir : Option Dir) (kind : NetKind) (range : Option Range) (other : Text)
    → declares_input name (Decl at dir kind range other) ≡ (bytes_eq other name && calls_input dir)
input_of name at (Some Input) kind range other = and_true (bytes_eq other name)
input_of name at (Some Output) kind range other = and_false (bytes_eq other name)
input_of name at None kind range other = and_false (bytes_eq other name)

output_of : (name : Text) (at : ℕ) (dir : Option Dir) (kind : NetKind) (range : Option Range) (other : Text)
    → declares_output name (Decl at dir kind range other) ≡ (bytes_eq other name && calls_output dir)
output_of name at (Some Output) kind range other = and_true (bytes_eq other name)
output_of name at (Some Input) kind range other = and_false (bytes_eq other name)
output_of name at None kind range other = and_false (bytes_eq other name)

register_of : (name : Text) (at : ℕ) (dir : Option Dir) (kind : NetKind) (range : Option Range) (other : Text)
    → declares_register name (Decl at dir kind range other) ≡ (bytes_eq other name && calls_register kind)
register_of name at dir Reg range other = and_true (bytes_eq other name)
register_of name at dir Plain range other = and_false (bytes_eq other name)
register_of name at dir Wire range other = and_false (bytes_eq other name)

-- a net, of which more is said
abbrev more : Net → Option Range → Bool → Bool → Bool → Bool → Net
more net written declared input output register = record {
  at = net.at;
  range = net.range;
  written = option_or net.written written;
  is_declared = net.is_declared || declared;
  is_input = net.is_input || input;
  is_output = net.is_output || output;
  is_register = net.is_register || register;
}

more_none : (net : Net) → net ≡ more net None false false false false
more_none net =
    let written_is : net.written ≡ option_or net.written None = sym (option_or_none net.written) in
    λ j. record {
      at = net.at;
      range = net.range;
      written = written_is j;
      is_declared = or_false net.is_declared j;
      is_input = or_false net.is_input j;
      is_output = or_false net.is_output j;
      is_register = or_false net.is_register j;
    }

option_or_assoc : {X : Type 0} (a b c : Option X) → option_or (option_or a b) c ≡ option_or a (option_or b c)
option_or_assoc None b c = refl
option_or_assoc (Some x) b c = refl

more_more : (net : Net) (w v : Option Range) (d e i k o p r s : Bool)
    → more (more net w d i o r) v e k p s ≡ more net (option_or w v) (d || e) (i || k) (o || p) (r || s)
more_more net w v d e i k o p r s = λ j. record {
  at = net.at;
  range = net.range;
  written = option_or_assoc net.written w v j;
  is_declared = or_assoc net.is_declared d e j;
  is_input = or_assoc net.is_input i k j;
  is_output = or_assoc net.is_output o p j;
  is_register = or_assoc net.is_register r s j;
}

-- one item more, of a name that is declared
marked : (name : Text) (net : Net) (item : Item) → after_item name (Some net) item
    ≡ Some (more net (written_in name item) (declares name item) (declares_input name item) (declares_output name item) (declares_register name item))
marked name net (Decl at dir kind range other) =
    by (bytes_eq other name)
    ∙ (λ j. Some (more net (cond (bytes_eq other name) range None) (bytes_eq other name)
    (sym (input_of name at dir kind range other) j) (sym (output_of name at dir kind range other) j) (sym (register_of name at dir kind range other) j)))
  where
    by : (b : Bool) → cond b (Some (declared_again net dir kind range)) (Some net)
        ≡ Some (more net (cond b range None) b (b && calls_input dir) (b && calls_output dir) (b && calls_register kind))
    by true = λ j. Some (record {
      at = net.at;
      range = net.range;
      written = option_or net.written range;
      is_declared = or_true net.is_declared j;
      is_input = net.is_input || calls_input dir;
      is_output = net.is_output || calls_output dir;
      is_register = net.is_register || calls_register kind;
    })
    by false = ap (λ (net : Net). Some net) (more_none net)
marked name net (Assign at left right) = ap (λ (net : Net). Some net) (more_none net)
marked name net (Gate at kind label outs ins) = ap (λ (net : Net). Some net) (more_none net)
marked name net (Instance at inner label links) = ap (λ (net : Net). Some net) (more_none net)
marked name net (Always at clock body) = ap (λ (net : Net). Some net) (more_none net)
marked name net (Initial at other value) = ap (λ (net : Net). Some net) (more_none net)

first_cons : {X : Type 0} (x : Option X) (xs : List X) → option_or x (first_of xs) ≡ first_of (cons_option x xs)
first_cons None xs = refl
first_cons (Some x) xs = refl

-- all items, of a name that is declared
after_known : (name : Text) (items : List Item) (net : Net) → after_items name (Some net) items
    ≡ Some (more net (first_of (filter_map (written_in name) items)) (list_any (declares name) items) (list_any (declares_input name) items) (list_any (declares_output name) items) (list_any (declares_register name) items))
after_known name [] net = ap (λ (net : Net). Some net) (more_none net)
after_known name (item ∷ items) net =
    ap (λ known. after_items name known items) (marked name net item)
    ∙ after_known name items (more net (written_in name item) (declares name item) (declares_input name item) (declares_output name item) (declares_register name item))
    ∙ ap (λ (net : Net). Some net) (more_more net (written_in name item) (first_of (filter_map (written_in name) items))
    (declares name item) (list_any (declares name) items) (declares_input name item) (list_any (declares_input name) items)
    (declares_output name item) (list_any (declares_output name) items) (declares_register name item) (list_any (declares_register name) items))
    ∙ ap (λ written. Some (more net written (list_any (declares name) (item ∷ items)) (list_any (declares_input name) (item ∷ items)) (list_any (declares_output name) (item ∷ items)) (list_any (declares_register name) (item ∷ items))))
    (first_cons (written_in name item) (filter_map (written_in name) items))

-- what items say of a name that this one of them declares first
abbrev summary : Text → List Item → Item → Net
summary name items item = record {
  at = place_in item;
  range = declared_range item;
  written = first_of (filter_map (written_in name) items);
  is_declared = list_any (declares name) items;
  is_input = list_any (declares_input name) items;
  is_output = list_any (declares_output name) items;
  is_register = list_any (declares_register name) items;
}

-- the same with a declaration before them, which declares the name or not
abbrev summary_behind : Text → List Item → Option Dir → NetKind → Option Range → Bool → Item → Net
summary_behind name items dir kind range b item = record {
  at = place_in item;
  range = declared_range item;
  written = first_of (cons_option (cond b range None) (filter_map (written_in name) items));
  is_declared = b || list_any (declares name) items;
  is_input = (b && calls_input dir) || list_any (declares_input name) items;
  is_output = (b && calls_output dir) || list_any (declares_output name) items;
  is_register = (b && calls_register kind) || list_any (declares_register name) items;
}

-- all items, from the start
after_none : (name : Text) (items : List Item) → after_items name None items ≡ option_map (summary name items) (find (declares name) items)
after_none name [] = refl
after_none name (Decl at dir kind range other ∷ items) =
    by (bytes_eq other name) (after_none name items)
    ∙ (λ j. option_map (λ (item : Item). record {
      at = place_in item;
      range = declared_range item;
      written = first_of (filter_map (written_in name) (Decl at dir kind range other ∷ items));
      is_declared = list_any (declares name) (Decl at dir kind range other ∷ items);
      is_input = sym (input_of name at dir kind range other) j || list_any (declares_input name) items;
      is_output = sym (output_of name at dir kind range other) j || list_any (declares_output name) items;
      is_register = sym (register_of name at dir kind range other) j || list_any (declares_register name) items;
    }) (find (declares name) (Decl at dir kind range other ∷ items)))
  where
    by : (b : Bool) → after_items name None items ≡ option_map (summary name items) (find (declares name) items)
        → after_items name (cond b (Some (first_declared at dir kind range)) None) items
        ≡ option_map (summary_behind name items dir kind range b) (cond b (Some (Decl at dir kind range other)) (find (declares name) items))
    by true ih =
        after_known name items (first_declared at dir kind range)
        ∙ ap (λ written. Some (record {
          at = at;
          range = unwrap_or range scalar;
          written = written;
          is_declared = true;
          is_input = calls_input dir || list_any (declares_input name) items;
          is_output = calls_output dir || list_any (declares_output name) items;
          is_register = calls_register kind || list_any (declares_register name) items;
        })) (first_cons range (filter_map (written_in name) items))
    by false ih = ih
after_none name (Assign at left right ∷ items) = after_none name items
after_none name (Gate at kind label outs ins ∷ items) = after_none name items
after_none name (Instance at inner label links ∷ items) = after_none name items
after_none name (Always at clock body ∷ items) = after_none name items
after_none name (Initial at other value ∷ items) = after_none name items

-- items that don't declare a name say nothing of it
record SaysNothing (name : Text) (items : List Item) : Type 0 where
  written : first_of (filter_map (written_in name) items) ≡ None
  declared : list_any (declares name) items ≡ false
  input : list_any (declares_input name) items ≡ false
  output : list_any (declares_output name) items ≡ false
  register : list_any (declares_register name) items ≡ false

says_nothing : (name : Text) (items : List Item) → find (declares name) items ≡ None → SaysNothing name items
says_nothing name [] is = record { written = refl; declared = refl; input = refl; output = refl; register = refl }
says_nothing name (Decl at dir kind range other ∷ items) is = by (bytes_eq other name) refl is (says_nothing name items)
  where
    by : (b : Bool) → bytes_eq other name ≡ b → cond b (Some (Decl at dir kind range other)) (find (declares name) items) ≡ None
        → (find (declares name) items ≡ None → SaysNothing name items) → SaysNothing name (Decl at dir kind range other ∷ items)
    by true same is rest = absurd (cc)
    by false same is rest =
        let ih = rest is in
        record {
          written = ap (λ b. first_of (cons_option (cond b range None) (filter_map (written_in name) items))) same ∙ ih.written;
          declared = ap (λ b. b || list_any (declares name) items) same ∙ ih.declared;
          input = ap (λ called. called || list_any (declares_input name) items) (input_of name at dir kind range other ∙ ap (λ b. b && calls_input dir) same) ∙ ih.input;
          output = ap (λ called. called || list_any (declares_output name) items) (output_of name at dir kind range other ∙ ap (λ b. b && calls_output dir) same) ∙ ih.output;
          register = ap (λ called. called || list_any (declares_register name) items) (register_of name at dir kind range other ∙ ap (λ b. b && calls_register kind) same) ∙ ih.register;
        }
says_nothing name (Assign at left right ∷ items) is = let ih = says_nothing name items is in record { written = ih.written; declared = ih.declared; input = ih.input; output = ih.output; register = ih.register }
says_nothing name (Gate at kind label outs ins ∷ items) is = let ih = says_nothing name items is in record { written = ih.written; declared = ih.declared; input = ih.input; output = ih.output; register = ih.register }
says_nothing name (Instance at inner label links ∷ items) is = let ih = says_nothing name items is in record { written = ih.written; declared = ih.declared; input = ih.input; output = ih.output; register = ih.register }
says_nothing name (Always at clock body ∷ items) is = let ih = says_nothing name items is in record { written = ih.written; declared = ih.declared; input = ih.input; output = ih.output; register = ih.register }
says_nothing name (Initial at other value ∷ items) is = let ih = says_nothing name items is in record { written = ih.written; declared = ih.declared; input = ih.input; output = ih.output; register = ih.register }

pub any_found : {X : Type 0} (test : X → Bool) (xs : List X) → list_any test xs ≡ is_some (find test xs)
any_found test [] = refl
any_found {X = X} test (x ∷ xs) = by (test x) (any_found test xs)
  where
    by : (b : Bool) → list_any test xs ≡ is_some (find test xs) → (b || list_any test xs) ≡ is_some (cond b (Some x) (find test xs))
    by true ih = refl
    by false ih = ih

module _ (m : Module) (name : Text) where
  -- what the module says of the name, by the first item that declares it
  abbrev said_by : Option Item → Option Net
  said_by declaring =
      option_map (λ range. record {
        at = unwrap_or (option_or (option_map place_in declaring) (first_use m name)) 0;
        range = range;
        written = first_of (filter_map (written_in name) m.items);
        is_declared = is_declared m name;
        is_input = list_any (declares_input name) m.items;
        is_output = list_any (declares_output name) m.items;
        is_register = list_any (declares_register name) m.items;
      }) (option_or (option_map declared_range declaring) (cond (is_implicit m name) (Some scalar) None))

  -- a name that is declared
  pub net_declared : (net : Net) → after_items name None m.items ≡ Some net → Some net ≡ net_of m name
  net_declared net is = by (find (declares name) m.items) refl (sym (after_none name m.items) ∙ is)
    where
      by : (declaring : Option Item) → find (declares name) m.items ≡ declaring → option_map (summary name m.items) declaring ≡ Some net → Some net ≡ net_of m name
      by (Some item) found is = sym (ap said_by found ∙ is)
      by None found is = absurd (cc)

  not_found : after_items name None m.items ≡ None → find (declares name) m.items ≡ None
  not_found is = by (find (declares name) m.items) (sym (after_none name m.items) ∙ is)
    where
      by : (declaring : Option Item) → option_map (summary name m.items) declaring ≡ None → declaring ≡ None
      by (Some item) is = absurd (cc)
      by None is = refl

  -- a name that is not declared
  pub net_used : (stands : Bool) → after_items name None m.items ≡ None → stands ≡ list_any (is_named name) (flat_map implicit_uses m.items)
      → cond stands (Some (implicit_net (unwrap_or (first_use m name) 0))) None ≡ net_of m name
  net_used stands is stand =
      let nothing = says_nothing name m.items (not_found is) in
      sym (ap said_by (not_found is)
      ∙ (λ j. option_map (λ range. record {
        at = unwrap_or (first_use m name) 0;
        range = range;
        written = nothing.written j;
        is_declared = nothing.declared j;
        is_input = nothing.input j;
        is_output = nothing.output j;
        is_register = nothing.register j;
      }) (cond (not (nothing.declared j) && sym stand j) (Some scalar) None))
      ∙ by stands)
    where
      by : (b : Bool) → option_map (λ (range : Range). record {
        at = unwrap_or (first_use m name) 0;
        range = range;
        written = None;
        is_declared = false;
        is_input = false;
        is_output = false;
        is_register = false;
      }) (cond b (Some scalar) None) ≡ cond b (Some (implicit_net (unwrap_or (first_use m name) 0))) None
      by true = refl
      by false = refl

  -- an implicit name is not declared, and stands for a declaration
  pub declared_not_implicit : (net : Net) → after_items name None m.items ≡ Some net → false ≡ is_implicit m name
  declared_not_implicit net is = by (find (declares name) m.items) (any_found (declares name) m.items) (sym (after_none name m.items) ∙ is)
    where
      by : (declaring : Option Item) → is_declared m name ≡ is_some declaring → option_map (summary name m.items) declaring ≡ Some net → false ≡ is_implicit m name
      by (Some item) found is = sym (ap (λ b. not b && list_any (is_named name) (flat_map implicit_uses m.items)) found)
      by None found is = absurd (cc)

  pub used_implicit : after_items name None m.items ≡ None → list_any (is_named name) (flat_map implicit_uses m.items) ≡ is_implicit m name
  used_implicit is = sym (ap (λ b. not b && list_any (is_named name) (flat_map implicit_uses m.items)) (any_found (declares name) m.items ∙ ap is_some (not_found is)))

  pub none_declared : find (declares name) m.items ≡ None → after_items name None m.items ≡ None
  none_declared found = after_none name m.items ∙ ap (option_map (summary name m.items)) found

  pub nothing_said : after_items name None m.items ≡ None → list_any (is_named name) (flat_map implicit_uses m.items) ≡ false → net_of m name ≡ None
  nothing_said is stand = sym (net_used false is (sym stand))

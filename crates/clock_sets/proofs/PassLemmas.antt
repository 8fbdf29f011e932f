-- Inputs have ranges, and each end of a pass is a name of a module.
use Rattle.std.proofs.Common.{◌≡◌, All, Bool, true, false, ◌||◌, ◌&&◌, List, [], ◌∷◌, map, refl, sym, ◌∙◌, ap, subst, ◌==◌, Option, Some, None, is_some, cond, bytes_eq, flat_map}
use Rattle.std.specs.List.{find, list_any}
use Rattle.std.specs.Map.{lookup}
use Rattle.std.specs.Cmp.Lexicographic.{bytes_decides}
use Rattle.std.specs.Option.{option_map, option_or, option_to_list, unwrap_or}
use Rattle.std.proofs.lemmas.Bool.{false≢true, or_left, or_right}
use Rattle.std.proofs.lemmas.List.Folds.{list_any-append}
use Rattle.std.proofs.lemmas.List.Elements.{All-append, All-cons, All-filter, All-head, All-nil, All-tail, All-weaker}
use Rattle.bm_base.specs.declared.range.Range.{Range}
use Rattle.vlog_tree.specs.declared.design.Design.{Design}
use Rattle.vlog_tree.specs.declared.design.Module.{Module}
use Rattle.vlog_tree.specs.declared.expr.Expr.{Expr}
use Rattle.vlog_tree.specs.declared.item.Dir.TheVariants.{Input, Output}
use Rattle.vlog_tree.specs.declared.item.Item.{Item}
use Rattle.vlog_tree.specs.declared.item.Item.TheVariants.{Always, Assign, Decl, Gate, Initial, Instance}
use Rattle.vlog_tree.specs.declared.expr.Expr.TheVariants as expr
use Rattle.vlog_tree.specs.declared.left.Left.{Left}
use Rattle.vlog_tree.specs.declared.left.Left.TheVariants as left
use Rattle.vlog_tree.specs.Meaning.Instances.{Child, Connection, connections, module_named}
use Rattle.vlog_tree.specs.Meaning.Keys.{bit_count}
use Rattle.vlog_tree.specs.Meaning.Names.{declares, declares_input, is_input}
use Rattle.vlog_tree.specs.Meaning.Ranges.{range_of, span}
use Rattle.vlog_tree.specs.Meaning.Uses.{Text}
use Rattle.nets.specs.Nets.{nets}
use Rattle.hierarchy.specs.Reach.{reached, reaches}
use Rattle.clock_sets.specs.Passing.{Pass, assign_pass, both, child_passes, connection_pass, one_bit, pass, passes, passes_in, plain_left, plain_name, same_signal, signal, signals}
use Rattle.clock_sets.proofs.AnyLemmas.{any_map}
use Rattle.nets.proofs.NameLemmas.{named_where_ranged}

-- ---- an input has a range

input_declared : (name : Text) (items : List Item) → list_any (declares_input name) items ≡ true → is_some (find (declares name) items) ≡ true
input_declared name [] e = absurd (false≢true e)
input_declared name (Decl at (Some Input) kind range other ∷ items) e = by (bytes_eq other name) e (input_declared name items)
  where
    by : (b : Bool) → (b || list_any (declares_input name) items) ≡ true → (list_any (declares_input name) items ≡ true → is_some (find (declares name) items) ≡ true)
        → is_some (cond b (Some (Decl at (Some Input) kind range other)) (find (declares name) items)) ≡ true
    by true h rest = refl
    by false h rest = rest h
input_declared name (Decl at (Some Output) kind range other ∷ items) e = by (bytes_eq other name) (input_declared name items e)
  where
    by : (b : Bool) → is_some (find (declares name) items) ≡ true → is_some (cond b (Some (Decl at (Some Output) kind range other)) (find (declares name) items)) ≡ true
    by true rest = refl
    by false rest = rest
input_declared name (Decl at None kind range other ∷ items) e = by (bytes_eq other name) (input_declared name items e)
  where
    by : (b : Bool) → is_some (find (declares name) items) ≡ true → is_some (cond b (Some (Decl at None kind range other)) (find (declares name) items)) ≡ true
    by true rest = refl
    by false rest = rest
input_declared name (Assign at left right ∷ items) e = input_declared name items e
input_declared name (Gate at kind label outs ins ∷ items) e = input_declared name items e
input_declared name (Instance at inner label links ∷ items) e = input_declared name items e
input_declared name (Always at clock body ∷ items) e = input_declared name items e
input_declared name (Initial at other value ∷ items) e = input_declared name items e

some_first : {X Y : Type 0} (f : X → Y) (o : Option X) (p : Option Y) → is_some o ≡ true → is_some (option_or (option_map f o) p) ≡ true
some_first f None p e = absurd (false≢true e)
some_first f (Some x) p e = refl

pub input_ranged : (m : Module) (name : Text) → is_input m name ≡ true → is_some (range_of m name) ≡ true
input_ranged m name e = some_first _ (find (declares name) m.items) _ (input_declared name m.items e)

-- ---- so has a name of one bit

one_ranged : (range : Option Range) → (unwrap_or (option_map span range) 0 == 1) ≡ true → is_some range ≡ true
one_ranged None e = absurd (false≢true e)
one_ranged (Some range) e = refl

bit_ranged : (m : Module) (name other : Text) → one_bit m name ≡ Some other → is_some (range_of m other) ≡ true
bit_ranged m name other e = by (bit_count m name == 1) refl e
  where
    by : (b : Bool) → (bit_count m name == 1) ≡ b → cond b (Some name) None ≡ Some other → is_some (range_of m other) ≡ true
    by true is h = let same : name ≡ other = cc in ap (λ n. is_some (range_of m n)) (sym same) ∙ one_ranged (range_of m name) is
    by false is h = absurd (cc)

left_ranged : (m : Module) (l : Left) (name : Text) → plain_left m l ≡ Some name → is_some (range_of m name) ≡ true
left_ranged m (left.Whole at other) name e = bit_ranged m other name e
left_ranged m other name e = absurd (cc)

expr_ranged : (m : Module) (x : Expr) (name : Text) → plain_name m x ≡ Some name → is_some (range_of m name) ≡ true
expr_ranged m (expr.Whole at other) name e = bit_ranged m other name e
expr_ranged m other name e = absurd (cc)

-- ---- names with ranges are names of modules

abbrev Knows : List Module → Module → Type 0
Knows modules m = (name : Text) → is_some (range_of m name) ≡ true → list_any (same_signal (signal m.name name)) (signals modules) ≡ true

any_looked_up : {X : Type 0} (test : Text → Bool) (entries : List (Text × X)) → list_any (λ entry. test entry.0) entries ≡ is_some (lookup test entries)
any_looked_up test [] = refl
any_looked_up {X = X} test (entry ∷ entries) = by (test entry.0) (any_looked_up test entries)
  where
    by : (b : Bool) → list_any (λ e. test e.0) entries ≡ is_some (lookup test entries) → (b || list_any (λ e. test e.0) entries) ≡ is_some (cond b (Some entry.1) (lookup test entries))
    by true rest = refl
    by false rest = rest

known_in : (m : Module) (name : Text) → is_some (range_of m name) ≡ true → list_any (same_signal (signal m.name name)) (map (λ entry. signal m.name entry.0) (nets m)) ≡ true
known_in m name e =
    any_map (same_signal (signal m.name name)) (λ entry. signal m.name entry.0) (nets m)
    ∙ ap (λ b. list_any (λ entry. b && bytes_eq name entry.0) (nets m)) ((bytes_decides m.name m.name).1 refl)
    ∙ any_looked_up (bytes_eq name) (nets m)
    ∙ named_where_ranged m name ∙ e

knows_first : (m : Module) (modules : List Module) → Knows (m ∷ modules) m
knows_first m modules name e =
    list_any-append (same_signal (signal m.name name)) (map (λ entry. signal m.name entry.0) (nets m)) (signals modules)
    ∙ or_left _ (list_any (same_signal (signal m.name name)) (signals modules)) (known_in m name e)

knows_more : (first : Module) (modules : List Module) (m : Module) → Knows modules m → Knows (first ∷ modules) m
knows_more first modules m knows name e =
    list_any-append (same_signal (signal m.name name)) (map (λ entry. signal first.name entry.0) (nets first)) (signals modules)
    ∙ or_right (list_any (same_signal (signal m.name name)) (map (λ entry. signal first.name entry.0) (nets first))) _ (knows name e)

all_know : (modules : List Module) → All (Knows modules) modules
all_know [] = All-nil (Knows [])
all_know (m ∷ modules) =
    All-cons (Knows (m ∷ modules)) m modules (knows_first m modules)
    (All-weaker (Knows modules) (Knows (m ∷ modules)) (knows_more m modules) modules (all_know modules))

-- ---- both ends of a pass

pub record IsKnown (modules : List Module) (one : Pass) : Type 0 where
  pub from_known : list_any (same_signal one.from) (signals modules) ≡ true
  pub to_known : list_any (same_signal one.to) (signals modules) ≡ true

all_flat : {X Y : Type 0} (P : Y → Type 0) (Q : X → Type 0) (f : X → List Y) → ((x : X) → Q x → All P (f x)) → (xs : List X) → All Q xs → All P (flat_map f xs)
all_flat P Q f each [] all = All-nil P
all_flat P Q f each (x ∷ xs) all =
    All-append P (f x) (flat_map f xs) (each x (All-head Q x xs all)) (all_flat P Q f each xs (All-tail Q x xs all))

all_flat_any : {X Y : Type 0} (P : Y → Type 0) (f : X → List Y) → ((x : X) → All P (f x)) → (xs : List X) → All P (flat_map f xs)
all_flat_any P f each [] = All-nil P
all_flat_any P f each (x ∷ xs) = All-append P (f x) (flat_map f xs) (each x) (all_flat_any P f each xs)

found_among : {X : Type 0} (P : X → Type 0) (p : X → Bool) (xs : List X) (x : X) → All P xs → find p xs ≡ Some x → P x
found_among P p [] x all e = absurd (cc)
found_among P p (y ∷ ys) x all e = by (p y) e (found_among P p ys x (All-tail P y ys all))
  where
    by : (b : Bool) → cond b (Some y) (find p ys) ≡ Some x → (find p ys ≡ Some x → P x) → P x
    by true h rest = let same : y ≡ x = cc in subst P same (All-head P y ys all)
    by false h rest = rest h

module _ (design : Design) where
  assign_known : (m : Module) → Knows design.modules m → (to from : Option Text) → ((name : Text) → to ≡ Some name → is_some (range_of m name) ≡ true) → ((name : Text) → from ≡ Some name → is_some (range_of m name) ≡ true)
      → All (IsKnown design.modules) (map (assign_pass m) (option_to_list (both to from)))
  assign_known m knows (Some to) (Some from) to_ranged from_ranged =
      All-cons (IsKnown design.modules) (assign_pass m (to, from)) []
      (record { from_known = knows from (from_ranged from refl); to_known = knows to (to_ranged to refl) }) (All-nil (IsKnown design.modules))
  assign_known m knows (Some to) None to_ranged from_ranged = All-nil (IsKnown design.modules)
  assign_known m knows None from to_ranged from_ranged = All-nil (IsKnown design.modules)

  port_known : (m : Module) → Knows design.modules m → (inner : Module) → Knows design.modules inner → (port : Text) → is_some (range_of inner port) ≡ true → (from : Option Text) → ((name : Text) → from ≡ Some name → is_some (range_of m name) ≡ true)
      → All (IsKnown design.modules) (map (λ name. pass (signal m.name name) (signal inner.name port)) (option_to_list from))
  port_known m knows inner inner_knows port ranged (Some from) from_ranged =
      All-cons (IsKnown design.modules) (pass (signal m.name from) (signal inner.name port)) []
      (record { from_known = knows from (from_ranged from refl); to_known = inner_knows port ranged }) (All-nil (IsKnown design.modules))
  port_known m knows inner inner_knows port ranged None from_ranged = All-nil (IsKnown design.modules)

  connection_known : (m : Module) → Knows design.modules m → (child : Child) → Knows design.modules child.definition → (connection : Connection) → All (IsKnown design.modules) (connection_pass m child connection)
  connection_known m knows child child_knows connection = by (is_input child.definition connection.port) refl
    where
      by : (b : Bool) → is_input child.definition connection.port ≡ b → All (IsKnown design.modules) (cond b (map (λ name. pass (signal m.name name) (signal child.definition.name connection.port)) (option_to_list (plain_name m connection.expression))) [])
      by true is =
          port_known m knows child.definition child_knows connection.port (input_ranged child.definition connection.port is) (plain_name m connection.expression)
          (expr_ranged m connection.expression)
      by false is = All-nil (IsKnown design.modules)

  child_known : (m : Module) → Knows design.modules m → (child : Child) → Knows design.modules child.definition → All (IsKnown design.modules) (child_passes m child)
  child_known m knows child child_knows = all_flat_any (IsKnown design.modules) (connection_pass m child) (connection_known m knows child child_knows) (connections child)

  item_known : (m : Module) → Knows design.modules m → (i : Item) → All (IsKnown design.modules) (passes_in design m i)
  item_known m knows (Assign at l r) = assign_known m knows (plain_left m l) (plain_name m r) (left_ranged m l) (expr_ranged m r)
  item_known m knows (Instance at inner name links) = by (module_named design inner) refl
    where
      by : (found : Option Module) → module_named design inner ≡ found → All (IsKnown design.modules) (flat_map (child_passes m) (option_to_list (option_map (λ n. record { name = name; definition = n; links = links }) found)))
      by None is = All-nil (IsKnown design.modules)
      by (Some n) is =
          All-append (IsKnown design.modules) (child_passes m (record { name = name; definition = n; links = links })) []
          (child_known m knows (record { name = name; definition = n; links = links }) (found_among (Knows design.modules) (λ k. bytes_eq k.name inner) design.modules n (all_know design.modules) is))
          (All-nil (IsKnown design.modules))
  item_known m knows (Decl at dir kind range other) = All-nil (IsKnown design.modules)
  item_known m knows (Gate at kind label outs ins) = All-nil (IsKnown design.modules)
  item_known m knows (Always at clock body) = All-nil (IsKnown design.modules)
  item_known m knows (Initial at other value) = All-nil (IsKnown design.modules)

  pub passes_known : (top : Text) → All (IsKnown design.modules) (passes design top)
  passes_known top =
      all_flat (IsKnown design.modules) (Knows design.modules) (λ m. flat_map (passes_in design m) m.items)
      (λ m knows. all_flat_any (IsKnown design.modules) (passes_in design m) (item_known m knows) m.items)
      (reached design top) (All-filter (λ m. reaches design top m.name) (Knows design.modules) design.modules (all_know design.modules))

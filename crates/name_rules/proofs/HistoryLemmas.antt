-- What the declarations so far say of a name is what stands among them.
use Rattle.std.proofs.Common.{ℕ, ◌+◌, ◌<◌, ◌≡◌, ◌==◌, ◌++◌, List, [], ◌∷◌, Bool, true, false, not, ◌||◌, ◌&&◌, cond, Option, Some, None, drop, fold, get_or, is_none, is_some, length, nat_lt, take, refl, sym, ap, ◌∙◌}
use Rattle.std.proofs.Math.Bool.{or_assoc}
use Rattle.std.specs.List.{list_any}
use Rattle.std.specs.Option.{unwrap_or}
use Rattle.std.specs.Str.{bytes_eq}
use Rattle.std.proofs.lemmas.Bool.Decides.{Decides-eqb}
use Rattle.std.proofs.lemmas.List.{take_more}
use Rattle.std.proofs.lemmas.List.Sums.{fold-append}
use Rattle.bm_base.specs.declared.range.Range.{Range}
use Rattle.hierarchy.specs.Failures.{Failure, earlier, failure}
use Rattle.vlog_tree.specs.declared.design.Module.{Module}
use Rattle.vlog_tree.specs.declared.item.Dir.{Dir}
use Rattle.vlog_tree.specs.declared.item.Dir.TheVariants.{Input, Output}
use Rattle.vlog_tree.specs.declared.item.Item.{Item}
use Rattle.vlog_tree.specs.declared.item.Item.TheVariants.{Always, Assign, Decl, Gate, Initial, Instance}
use Rattle.vlog_tree.specs.declared.item.NetKind.{NetKind}
use Rattle.vlog_tree.specs.declared.item.NetKind.TheVariants.{Plain, Reg, Wire}
use Rattle.vlog_tree.specs.Meaning.Names.{declares_input, declares_register}
use Rattle.vlog_tree.specs.Meaning.Ranges.{scalar, span}
use Rattle.vlog_tree.specs.Meaning.Uses.{Text}
use Rattle.vlog_tree.specs.Meaning.Widths.{greatest}
use Rattle.name_rules.specs.Declarations.{bad_declaration, bad_declarations_after, declares_again, declares_plainly, differs_in_range, directs, is_among, is_bad_declaration, same_range}
use Rattle.name_rules.specs.Histories.{bad_declaration_by, is_bad_with, repeats, said_after, said_by, said_of, says_input, says_register}
use Rattle.name_rules.specs.declared.history.History.{History}
use Rattle.name_rules.proofs.ListLemmas.{after_step}
use Rattle.name_rules.proofs.NameLemmas.{bytes_eq_self, or_false}

-- ---- one fact after another

-- A fact that each item adds to holds after all of them where it held before or some item adds it.
fact_by : (name : Text) (fact : Option History → Bool) (test : Item → Bool)
    → ((known : Option History) (i : Item) → fact (said_of name known i) ≡ (fact known || test i))
    → (known : Option History) (items : List Item) → fact (fold (said_of name) known items) ≡ (fact known || list_any test items)
fact_by name fact test step known [] = sym (or_false (fact known))
fact_by name fact test step known (i ∷ items) =
    fact_by name fact test step (said_of name known i) items
    ∙ ap (λ b. b || list_any test items) (step known i)
    ∙ or_assoc (fact known) (test i) (list_any test items)

same_range_is : (range other : Range) → same_range range other ≡ true → range ≡ other
same_range_is range other is =
    let lefts : range.left ≡ other.left = (Decides-eqb range.left other.left).0 (left_of (range.left == other.left) (range.right == other.right) is) in
    let rights : range.right ≡ other.right = (Decides-eqb range.right other.right).0 (right_of (range.left == other.left) (range.right == other.right) is) in
    λ j. record { left = lefts j; right = rights j }
  where
    left_of : (a b : Bool) → (a && b) ≡ true → a ≡ true
    left_of true b is = refl
    left_of false b is = is

    right_of : (a b : Bool) → (a && b) ≡ true → b ≡ true
    right_of true b is = is
    right_of false true is = refl
    right_of false false is = is

same_range_self : (range : Range) → same_range range range ≡ true
same_range_self range =
    ap (λ b. b && (range.right == range.right)) ((Decides-eqb range.left range.left).1 refl)
    ∙ (Decides-eqb range.right range.right).1 refl

-- a range that is not the first, or a first that is not this
differ_more : (first more range : Range) (differs : Bool)
    → ((differs || not (same_range first more)) || not (same_range first range))
    ≡ ((differs || not (same_range first range)) || not (same_range more range))
differ_more first more range true = refl
differ_more first more range false = by (same_range first more) (same_range first range) refl refl
  where
    by : (a b : Bool) → same_range first more ≡ a → same_range first range ≡ b
        → (not a || not b) ≡ (not b || not (same_range more range))
    by true true one other =
        sym (ap not (ap (λ r. same_range r range) (sym (same_range_is first more one)) ∙ other))
    by true false one other = refl
    by false true one other =
        sym (ap not (ap (same_range more) (sym (same_range_is first range other)) ∙ back (same_range more first) refl))
      where
        back : (c : Bool) → same_range more first ≡ c → c ≡ false
        back false is = refl
        back true is = sym (same_range_self first) ∙ ap (same_range first) (sym (same_range_is more first is)) ∙ one
    by false false one other = refl

-- ---- the facts

abbrev says_direction : Option History → Bool
says_direction None = false
says_direction (Some history) = history.has_direction

direction_known : (known : Option History) (dir : Option Dir) (kind : NetKind) (range : Range)
    → says_direction (Some (said_after known dir kind range)) ≡ (says_direction known || is_some dir)
direction_known None dir kind range = refl
direction_known (Some history) dir kind range = refl

direction_step : (name : Text) (known : Option History) (i : Item) → says_direction (said_of name known i) ≡ (says_direction known || directs name i)
direction_step name known (Decl at (Some dir) kind range other) = by (bytes_eq other name)
  where
    by : (b : Bool) → says_direction (cond b (Some (said_after known (Some dir) kind (unwrap_or range scalar))) known) ≡ (says_direction known || b)
    by true = direction_known known (Some dir) kind (unwrap_or range scalar)
    by false = sym (or_false (says_direction known))
direction_step name known (Decl at None kind range other) = by (bytes_eq other name)
  where
    by : (b : Bool) → says_direction (cond b (Some (said_after known None kind (unwrap_or range scalar))) known) ≡ (says_direction known || false)
    by true = direction_known known None kind (unwrap_or range scalar)
    by false = sym (or_false (says_direction known))
direction_step name known (Assign at left right) = sym (or_false (says_direction known))
direction_step name known (Gate at kind other outs ins) = sym (or_false (says_direction known))
direction_step name known (Instance at inner other links) = sym (or_false (says_direction known))
direction_step name known (Always at clock body) = sym (or_false (says_direction known))
direction_step name known (Initial at other value) = sym (or_false (says_direction known))

abbrev says_plain : Option History → Bool
says_plain None = false
says_plain (Some history) = history.is_plain

plain_known : (known : Option History) (dir : Option Dir) (kind : NetKind) (range : Range)
    → says_plain (Some (said_after known dir kind range)) ≡ (says_plain known || is_none dir)
plain_known None dir kind range = refl
plain_known (Some history) dir kind range = refl

plain_step : (name : Text) (known : Option History) (i : Item) → says_plain (said_of name known i) ≡ (says_plain known || declares_plainly name i)
plain_step name known (Decl at (Some dir) kind range other) = by (bytes_eq other name)
  where
    by : (b : Bool) → says_plain (cond b (Some (said_after known (Some dir) kind (unwrap_or range scalar))) known) ≡ (says_plain known || false)
    by true = plain_known known (Some dir) kind (unwrap_or range scalar)
    by false = sym (or_false (says_plain known))
plain_step name known (Decl at None kind range other) = by (bytes_eq other name)
  where
    by : (b : Bool) → says_plain (cond b (Some (said_after known None kind (unwrap_or range scalar))) known) ≡ (says_plain known || b)
    by true = plain_known known None kind (unwrap_or range scalar)
    by false = sym (or_false (says_plain known))
plain_step name known (Assign at left right) = sym (or_false (says_plain known))
plain_step name known (Gate at kind other outs ins) = sym (or_false (says_plain known))
plain_step name known (Instance at inner other links) = sym (or_false (says_plain known))
plain_step name known (Always at clock body) = sym (or_false (says_plain known))
plain_step name known (Initial at other value) = sym (or_false (says_plain known))

abbrev is_input_so_far : Option History → Bool
is_input_so_far None = false
is_input_so_far (Some history) = history.is_input

input_known : (known : Option History) (dir : Option Dir) (kind : NetKind) (range : Range)
    → is_input_so_far (Some (said_after known dir kind range)) ≡ (is_input_so_far known || says_input dir)
input_known None dir kind range = refl
input_known (Some history) dir kind range = refl

input_step : (name : Text) (known : Option History) (i : Item) → is_input_so_far (said_of name known i) ≡ (is_input_so_far known || declares_input name i)
input_step name known (Decl at (Some Input) kind range other) = by (bytes_eq other name)
  where
    by : (b : Bool) → is_input_so_far (cond b (Some (said_after known (Some Input) kind (unwrap_or range scalar))) known) ≡ (is_input_so_far known || b)
    by true = input_known known (Some Input) kind (unwrap_or range scalar)
    by false = sym (or_false (is_input_so_far known))
input_step name known (Decl at (Some Output) kind range other) = by (bytes_eq other name)
  where
    by : (b : Bool) → is_input_so_far (cond b (Some (said_after known (Some Output) kind (unwrap_or range scalar))) known) ≡ (is_input_so_far known || false)
    by true = input_known known (Some Output) kind (unwrap_or range scalar)
    by false = sym (or_false (is_input_so_far known))
input_step name known (Decl at None kind range other) = by (bytes_eq other name)
  where
    by : (b : Bool) → is_input_so_far (cond b (Some (said_after known None kind (unwrap_or range scalar))) known) ≡ (is_input_so_far known || false)
    by true = input_known known None kind (unwrap_or range scalar)
    by false = sym (or_false (is_input_so_far known))
input_step name known (Assign at left right) = sym (or_false (is_input_so_far known))
input_step name known (Gate at kind other outs ins) = sym (or_false (is_input_so_far known))
input_step name known (Instance at inner other links) = sym (or_false (is_input_so_far known))
input_step name known (Always at clock body) = sym (or_false (is_input_so_far known))
input_step name known (Initial at other value) = sym (or_false (is_input_so_far known))

abbrev is_register_so_far : Option History → Bool
is_register_so_far None = false
is_register_so_far (Some history) = history.is_register

register_known : (known : Option History) (dir : Option Dir) (kind : NetKind) (range : Range)
    → is_register_so_far (Some (said_after known dir kind range)) ≡ (is_register_so_far known || says_register kind)
register_known None dir kind range = refl
register_known (Some history) dir kind range = refl

register_step : (name : Text) (known : Option History) (i : Item) → is_register_so_far (said_of name known i) ≡ (is_register_so_far known || declares_register name i)
register_step name known (Decl at dir Reg range other) = by (bytes_eq other name)
  where
    by : (b : Bool) → is_register_so_far (cond b (Some (said_after known dir Reg (unwrap_or range scalar))) known) ≡ (is_register_so_far known || b)
    by true = register_known known dir Reg (unwrap_or range scalar)
    by false = sym (or_false (is_register_so_far known))
register_step name known (Decl at dir Plain range other) = by (bytes_eq other name)
  where
    by : (b : Bool) → is_register_so_far (cond b (Some (said_after known dir Plain (unwrap_or range scalar))) known) ≡ (is_register_so_far known || false)
    by true = register_known known dir Plain (unwrap_or range scalar)
    by false = sym (or_false (is_register_so_far known))
register_step name known (Decl at dir Wire range other) = by (bytes_eq other name)
  where
    by : (b : Bool) → is_register_so_far (cond b (Some (said_after known dir Wire (unwrap_or range scalar))) known) ≡ (is_register_so_far known || false)
    by true = register_known known dir Wire (unwrap_or range scalar)
    by false = sym (or_false (is_register_so_far known))
register_step name known (Assign at left right) = sym (or_false (is_register_so_far known))
register_step name known (Gate at kind other outs ins) = sym (or_false (is_register_so_far known))
register_step name known (Instance at inner other links) = sym (or_false (is_register_so_far known))
register_step name known (Always at clock body) = sym (or_false (is_register_so_far known))
register_step name known (Initial at other value) = sym (or_false (is_register_so_far known))

abbrev differs_from : Range → Option History → Bool
differs_from range None = false
differs_from range (Some history) = history.differs || not (same_range history.range range)

differs_known : (range : Range) (known : Option History) (dir : Option Dir) (kind : NetKind) (more : Range)
    → differs_from range (Some (said_after known dir kind more)) ≡ (differs_from range known || not (same_range more range))
differs_known range None dir kind more = refl
differs_known range (Some history) dir kind more = differ_more history.range more range history.differs

differs_step : (range : Range) (name : Text) (known : Option History) (i : Item)
    → differs_from range (said_of name known i) ≡ (differs_from range known || differs_in_range range name i)
differs_step range name known (Decl at dir kind more other) = by (bytes_eq other name)
  where
    by : (b : Bool) → differs_from range (cond b (Some (said_after known dir kind (unwrap_or more scalar))) known)
        ≡ (differs_from range known || (b && not (same_range (unwrap_or more scalar) range)))
    by true = differs_known range known dir kind (unwrap_or more scalar)
    by false = sym (or_false (differs_from range known))
differs_step range name known (Assign at left right) = sym (or_false (differs_from range known))
differs_step range name known (Gate at kind other outs ins) = sym (or_false (differs_from range known))
differs_step range name known (Instance at inner other links) = sym (or_false (differs_from range known))
differs_step range name known (Always at clock body) = sym (or_false (differs_from range known))
differs_step range name known (Initial at other value) = sym (or_false (differs_from range known))

-- ---- what is wrong with a declaration

repeats_told : (name : Text) (before : List Item) (dir : Option Dir) → repeats (said_by before name) dir ≡ list_any (declares_again dir name) before
repeats_told name before (Some dir) =
    known_direction (said_by before name) ∙ fact_by name says_direction (directs name) (direction_step name) None before
  where
    known_direction : (known : Option History) → repeats known (Some dir) ≡ says_direction known
    known_direction None = refl
    known_direction (Some history) = refl
repeats_told name before None =
    known_plain (said_by before name) ∙ fact_by name says_plain (declares_plainly name) (plain_step name) None before
  where
    known_plain : (known : Option History) → repeats known None ≡ says_plain known
    known_plain None = refl
    known_plain (Some history) = refl

differs_told : (name : Text) (before : List Item) (dir : Option Dir) (kind : NetKind) (range : Range)
    → (said_after (said_by before name) dir kind range).differs ≡ list_any (differs_in_range range name) before
differs_told name before dir kind range =
    known_range (said_by before name) ∙ fact_by name (differs_from range) (differs_in_range range name) (differs_step range name) None before
  where
    known_range : (known : Option History) → (said_after known dir kind range).differs ≡ differs_from range known
    known_range None = refl
    known_range (Some history) = refl

-- what the items say with this declaration
said_with : (name : Text) (before : List Item) (at : ℕ) (dir : Option Dir) (kind : NetKind) (range : Option Range)
    → Some (said_after (said_by before name) dir kind (unwrap_or range scalar)) ≡ said_by (before ++ Decl at dir kind range name ∷ []) name
said_with name before at dir kind range =
    ap (λ b. cond b (Some (said_after (said_by before name) dir kind (unwrap_or range scalar))) (said_by before name)) (sym (bytes_eq_self name))
    ∙ sym (fold-append (said_of name) None before (Decl at dir kind range name ∷ []))

input_told : (name : Text) (before : List Item) (at : ℕ) (dir : Option Dir) (kind : NetKind) (range : Option Range)
    → (said_after (said_by before name) dir kind (unwrap_or range scalar)).is_input ≡ list_any (declares_input name) (before ++ Decl at dir kind range name ∷ [])
input_told name before at dir kind range =
    ap is_input_so_far (said_with name before at dir kind range)
    ∙ fact_by name is_input_so_far (declares_input name) (input_step name) None (before ++ Decl at dir kind range name ∷ [])

register_told : (name : Text) (before : List Item) (at : ℕ) (dir : Option Dir) (kind : NetKind) (range : Option Range)
    → (said_after (said_by before name) dir kind (unwrap_or range scalar)).is_register ≡ list_any (declares_register name) (before ++ Decl at dir kind range name ∷ [])
register_told name before at dir kind range =
    ap is_register_so_far (said_with name before at dir kind range)
    ∙ fact_by name is_register_so_far (declares_register name) (register_step name) None (before ++ Decl at dir kind range name ∷ [])

bad_told : (m : Module) (before : List Item) (at : ℕ) (dir : Option Dir) (kind : NetKind) (range : Option Range) (name : Text)
    → is_bad_with (is_among m.ports name) (said_by before name) (said_after (said_by before name) dir kind (unwrap_or range scalar)) dir (unwrap_or range scalar)
    ≡ is_bad_declaration m before (Decl at dir kind range name) dir range name
bad_told m before at dir kind range name =
    let last = nat_lt greatest (span (unwrap_or range scalar)) in
    let after = said_after (said_by before name) dir kind (unwrap_or range scalar) in
    let no_port = is_some dir && not (is_among m.ports name) in
    ap (λ b. b || (no_port || (after.differs || ((after.is_input && after.is_register) || last)))) (repeats_told name before dir)
    ∙ ap (λ b. list_any (declares_again dir name) before || (no_port || (b || ((after.is_input && after.is_register) || last)))) (differs_told name before dir kind (unwrap_or range scalar))
    ∙ ap (λ b. list_any (declares_again dir name) before || (no_port || (list_any (differs_in_range (unwrap_or range scalar) name) before || ((b && after.is_register) || last)))) (input_told name before at dir kind range)
    ∙ ap (λ b. list_any (declares_again dir name) before || (no_port || (list_any (differs_in_range (unwrap_or range scalar) name) before || ((list_any (declares_input name) (before ++ Decl at dir kind range name ∷ []) && b) || last)))) (register_told name before at dir kind range)

bad_by_kept : (m : Module) (before : List Item) (is_port : Text → Bool) (known : Text → Option History)
    → ((name : Text) → is_port name ≡ is_among m.ports name) → ((name : Text) → known name ≡ said_by before name) → (i : Item)
    → bad_declaration_by m is_port known i ≡ bad_declaration m before i
bad_by_kept m before is_port known ports kept (Decl at dir kind range name) =
    ap (λ b. cond (is_bad_with b (known name) (said_after (known name) dir kind (unwrap_or range scalar)) dir (unwrap_or range scalar)) (failure at m.name name ∷ []) []) (ports name)
    ∙ ap (λ said. cond (is_bad_with (is_among m.ports name) said (said_after said dir kind (unwrap_or range scalar)) dir (unwrap_or range scalar)) (failure at m.name name ∷ []) []) (kept name)
    ∙ ap (λ b. cond b (failure at m.name name ∷ []) []) (bad_told m before at dir kind range name)
bad_by_kept m before is_port known ports kept (Assign at left right) = refl
bad_by_kept m before is_port known ports kept (Gate at kind other outs ins) = refl
bad_by_kept m before is_port known ports kept (Instance at inner other links) = refl
bad_by_kept m before is_port known ports kept (Always at clock body) = refl
bad_by_kept m before is_port known ports kept (Initial at other value) = refl

-- ---- one item more

pub declarations_step : (m : Module) (items : List Item) (i : ℕ) (this : Item) → i < length items → this ≡ get_or items i this
    → (is_port : Text → Bool) → ((name : Text) → is_port name ≡ is_among m.ports name)
    → (known : Text → Option History) → ((name : Text) → known name ≡ said_by (take i items) name)
    → (found next : Option Failure) → next ≡ fold earlier found (bad_declaration_by m is_port known this)
    → fold earlier next (bad_declarations_after m (take (i + 1) items) (drop (i + 1) items)) ≡ fold earlier found (bad_declarations_after m (take i items) (drop i items))
declarations_step m items i this within is is_port ports known kept found next noted =
    after_step (bad_declaration m) (bad_declarations_after m) (λ before this rest. refl)
    items i this within is found next (noted ∙ ap (fold earlier found) (bad_by_kept m (take i items) is_port known ports kept this))

pub said_step : (items : List Item) (i : ℕ) (this : Item) → i < length items → this ≡ get_or items i this
    → (known next : Text → Option History) → ((name : Text) → known name ≡ said_by (take i items) name)
    → ((name : Text) → next name ≡ said_of name (known name) this)
    → (name : Text) → next name ≡ said_by (take (i + 1) items) name
said_step items i this within is known next kept after name =
    after name
    ∙ ap (λ said. said_of name said this) (kept name)
    ∙ sym (fold-append (said_of name) None (take i items) (this ∷ []))
    ∙ ap (λ before. said_by before name) (sym (take_more items i this within ∙ ap (λ other. take i items ++ other ∷ []) (sym is)))

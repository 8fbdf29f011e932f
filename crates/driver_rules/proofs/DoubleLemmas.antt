-- What is driven twice, item by item, is what the definition says of all that is assigned.
use Rattle.std.proofs.Common.{ℕ, ◌+◌, ◌<◌, ◌≤◌, ◌≡◌, ◌++◌, ◌==◌, ◌&&◌, ◌||◌, not, List, [], ◌∷◌, Bool, true, false, cond, Option, Some, None, append_assoc, append-nil, filter, filter_map, flat_map, map, refl, ap, ap₂, sym, ◌∙◌, arith}
use Rattle.std.proofs.Math.Bool.{or_assoc}
use Rattle.std.proofs.lemmas.Bool.Decides.{nat_tests}
use Rattle.std.proofs.lemmas.Grind.{flat_map-append}
use Rattle.std.proofs.lemmas.List.{map-append}
use Rattle.std.proofs.lemmas.List.Folds.{list_any-append}
use Rattle.std.specs.List.{cons_option, enumerate_from, list_any}
use Rattle.std.specs.Option.{option_and_then, option_map, option_to_list}
use Rattle.hierarchy.specs.Failures.{failure}
use Rattle.vlog_tree.specs.declared.design.Design.{Design}
use Rattle.vlog_tree.specs.declared.design.Module.{Module}
use Rattle.vlog_tree.specs.declared.expr.Expr.{Expr}
use Rattle.vlog_tree.specs.declared.item.Item.{Item}
use Rattle.vlog_tree.specs.declared.item.Item.TheVariants as item
use Rattle.vlog_tree.specs.declared.item.Link.{Link}
use Rattle.vlog_tree.specs.Meaning.Drivers.{outputs_of}
use Rattle.vlog_tree.specs.Meaning.Instances.{Child, Connection, connection_of, module_named, port_of}
use Rattle.vlog_tree.specs.Meaning.Names.{is_output}
use Rattle.vlog_tree.specs.Meaning.Uses.{Text}
use Rattle.driver_rules.specs.Doubles.{Assigned, Driving, clash, doubles_after, driving, drivings, drivings_of, is_always, left_assigned, lefts_in, overlap, target_assigned}
use Rattle.driver_rules.specs.Driven.{assigned_by, double_in, doubles_by_item, doubles_in_group, doubles_in_groups, overlaps_any}
use Rattle.driver_rules.specs.Groups.{groups_of, instance_assigned, joined, link_assigned, links_assigned, port_assigned}

-- ---- what an item assigns

joined-append : (lists more : List (List Assigned)) → joined (lists ++ more) ≡ joined lists ++ joined more
joined-append lists more = flat_map-append (λ (list : List Assigned). list) lists more

one_output : (m inner : Module) (link : ℕ × Link) (port : Option Text) (e : Option Expr) (rest : List Connection)
    → joined (map (λ c. target_assigned m c.expression) (filter (λ (c : Connection). is_output inner c.port)
    (cons_option (option_and_then (λ port. option_map (λ e. record { port = port; expression = e }) e) port) rest)))
    ≡ port_assigned m inner port e ++ joined (map (λ c. target_assigned m c.expression) (filter (λ (c : Connection). is_output inner c.port) rest))
one_output m inner link None e rest = refl
one_output m inner link (Some port) None rest = refl
one_output m inner link (Some port) (Some e) rest = by (is_output inner port)
  where
    by : (b : Bool)
        → joined (map (λ (c : Connection). target_assigned m c.expression)
        (cond b (record { port = port; expression = e } ∷ filter (λ (c : Connection). is_output inner c.port) rest) (filter (λ (c : Connection). is_output inner c.port) rest)))
        ≡ cond b (target_assigned m e) [] ++ joined (map (λ c. target_assigned m c.expression) (filter (λ (c : Connection). is_output inner c.port) rest))
    by true = refl
    by false = refl

outputs_told : (m inner : Module) (links : List Link) (place : ℕ)
    → joined (map (λ c. target_assigned m c.expression) (filter (λ (c : Connection). is_output inner c.port) (filter_map (connection_of inner) (enumerate_from place links))))
    ≡ flat_map (link_assigned m inner) (enumerate_from place links)
outputs_told m inner [] place = refl
outputs_told m inner (link ∷ links) place =
    one_output m inner (place, link) (port_of inner (place, link)) link.expr (filter_map (connection_of inner) (enumerate_from (place + 1) links))
    ∙ ap (λ rest. link_assigned m inner (place, link) ++ rest) (outputs_told m inner links (place + 1))

instance_told : (design : Design) (m : Module) (at : ℕ) (inner name : Text) (links : List Link)
    → joined (lefts_in design m (item.Instance at inner name links)) ≡ instance_assigned design m inner links
instance_told design m at inner name links = by (module_named design inner)
  where
    by : (known : Option Module)
        → joined (flat_map (λ (child : Child). map (λ connection. target_assigned m connection.expression) (outputs_of child))
        (option_to_list (option_map (λ definition. record { name = name; definition = definition; links = links }) known)))
        ≡ flat_map (links_assigned m links) (option_to_list known)
    by None = refl
    by (Some definition) =
        ap joined (append-nil (map (λ (connection : Connection). target_assigned m connection.expression) (outputs_of (record { name = name; definition = definition; links = links }))))
        ∙ outputs_told m definition links 0 ∙ sym (append-nil (links_assigned m links definition))

-- all that an item assigns, by left sides and by groups
assigned_is : (design : Design) (m : Module) (i : Item) → joined (lefts_in design m i) ≡ assigned_by design m i
assigned_is design m (item.Decl at dir kind range name) = refl
assigned_is design m (item.Assign at left right) = refl
assigned_is design m (item.Gate at kind name outs ins) = sym (append-nil (joined (map (left_assigned m) outs)))
assigned_is design m (item.Instance at inner name links) =
    instance_told design m at inner name links ∙ sym (append-nil (instance_assigned design m inner links))
assigned_is design m (item.Always at clock body) = refl
assigned_is design m (item.Initial at name value) = refl

-- ---- drivings

abbrev strip : Driving → Assigned
strip this = record { at = this.at; bits = this.bits }

-- those of left sides from a number on
abbrev of_lefts : ℕ → Bool → ℕ → List (List Assigned) → List Driving
of_lefts number in_always from lefts = flat_map (λ (left : ℕ × List Assigned). map (driving number in_always left.0) left.1) (enumerate_from from lefts)

stripped_left : (number : ℕ) (in_always : Bool) (left : ℕ) (group : List Assigned) → map strip (map (driving number in_always left) group) ≡ group
stripped_left number in_always left [] = refl
stripped_left number in_always left (one ∷ group) = ap (λ rest. one ∷ rest) (stripped_left number in_always left group)

stripped : (number : ℕ) (in_always : Bool) (from : ℕ) (lefts : List (List Assigned)) → map strip (of_lefts number in_always from lefts) ≡ joined lefts
stripped number in_always from [] = refl
stripped number in_always from (group ∷ lefts) =
    map-append strip (map (driving number in_always from) group) (of_lefts number in_always (from + 1) lefts)
    ∙ ap₂ ◌++◌ (stripped_left number in_always from group) (stripped number in_always (from + 1) lefts)

-- ---- clashes

and_true : (b : Bool) → (b && true) ≡ b
and_true true = refl
and_true false = refl

and_false : (b : Bool) → (b && false) ≡ false
and_false true = refl
and_false false = refl

or_false : (b : Bool) → (b || false) ≡ b
or_false true = refl
or_false false = refl

-- outside of an `always`
plain_clash : (number left : ℕ) (this : Assigned) (other : Driving) → clash (driving number false left this) other ≡ overlap this.bits other.bits
plain_clash number left this other = and_true (overlap this.bits other.bits)

-- of different items
apart_clash : (number next : ℕ) (b : Bool) (left : ℕ) (this : Assigned) (in_always : Bool) (from : ℕ) (other : Assigned) → number < next
    → clash (driving next b left this) (driving number in_always from other) ≡ overlap this.bits other.bits
apart_clash number next b left this in_always from other less =
    let differ : (next == number) ≡ false = grind (arith, nat_tests) in
    ap (λ e. overlap this.bits other.bits && not (b && (e && not (left == from)))) differ
    ∙ ap (λ e. overlap this.bits other.bits && not e) (and_false b)
    ∙ and_true (overlap this.bits other.bits)

-- in one left side
same_clash : (number : ℕ) (b : Bool) (left : ℕ) (this other : Assigned) → clash (driving number b left this) (driving number b left other) ≡ overlap this.bits other.bits
same_clash number b left this other =
    let same : (left == left) ≡ true = grind (arith, nat_tests) in
    ap (λ e. overlap this.bits other.bits && not (b && ((number == number) && not e))) same
    ∙ ap (λ e. overlap this.bits other.bits && not (b && e)) (and_false (number == number))
    ∙ ap (λ e. overlap this.bits other.bits && not e) (and_false b)
    ∙ and_true (overlap this.bits other.bits)

-- in different left sides of one `always`
shared_clash : (number left next : ℕ) (this other : Assigned) → left < next → clash (driving number true next this) (driving number true left other) ≡ false
shared_clash number left next this other less =
    let same : (number == number) ≡ true = grind (arith, nat_tests) in
    let differ : (next == left) ≡ false = grind (arith, nat_tests) in
    ap (λ e. overlap this.bits other.bits && not (e && not (next == left))) same
    ∙ ap (λ e. overlap this.bits other.bits && not (not e)) differ
    ∙ and_false (overlap this.bits other.bits)

plain_any : (number left : ℕ) (this : Assigned) (others : List Driving) → list_any (clash (driving number false left this)) others ≡ overlaps_any (map strip others) this
plain_any number left this [] = refl
plain_any number left this (other ∷ others) = ap₂ ◌||◌ (plain_clash number left this other) (plain_any number left this others)

shared_any : (number left next : ℕ) (this : Assigned) (group : List Assigned) → left < next
    → list_any (clash (driving number true next this)) (map (driving number true left) group) ≡ false
shared_any number left next this [] less = refl
shared_any number left next this (other ∷ group) less = ap₂ ◌||◌ (shared_clash number left next this other less) (shared_any number left next this group less)

apart_group : (number next : ℕ) (b : Bool) (left : ℕ) (this : Assigned) (in_always : Bool) (from : ℕ) (group : List Assigned) → number < next
    → list_any (clash (driving next b left this)) (map (driving number in_always from) group) ≡ overlaps_any group this
apart_group number next b left this in_always from [] less = refl
apart_group number next b left this in_always from (other ∷ group) less =
    ap₂ ◌||◌ (apart_clash number next b left this in_always from other less) (apart_group number next b left this in_always from group less)

apart_any : (number next : ℕ) (b : Bool) (left : ℕ) (this : Assigned) (in_always : Bool) (from : ℕ) (lefts : List (List Assigned)) → number < next
    → list_any (clash (driving next b left this)) (of_lefts number in_always from lefts) ≡ overlaps_any (joined lefts) this
apart_any number next b left this in_always from [] less = refl
apart_any number next b left this in_always from (group ∷ lefts) less =
    list_any-append (clash (driving next b left this)) (map (driving number in_always from) group) (of_lefts number in_always (from + 1) lefts)
    ∙ ap₂ ◌||◌ (apart_group number next b left this in_always from group less) (apart_any number next b left this in_always (from + 1) lefts less)
    ∙ sym (list_any-append (λ (other : Assigned). overlap this.bits other.bits) group (joined lefts))

-- ---- one group

module _ (m : Module) where
  -- what has bits in common with those before an item and those before it in a group
  abbrev Knows : ℕ → Bool → ℕ → List Driving → List Assigned → List Assigned → Type 0
  Knows number b left all before here =
      (this : Assigned) → list_any (clash (driving number b left this)) all ≡ (overlaps_any before this || overlaps_any here this)

  knows_more : (number : ℕ) (b : Bool) (left : ℕ) (all : List Driving) (before here : List Assigned) (one : Assigned)
      → Knows number b left all before here → Knows number b left (all ++ driving number b left one ∷ []) before (here ++ one ∷ [])
  knows_more number b left all before here one knows this =
      list_any-append (clash (driving number b left this)) all (driving number b left one ∷ [])
      ∙ ap₂ ◌||◌ (knows this) (ap (λ e. e || false) (same_clash number b left this one))
      ∙ or_assoc (overlaps_any before this) (overlaps_any here this) (overlap this.bits one.bits || false)
      ∙ ap (λ e. overlaps_any before this || e) (sym (list_any-append (λ (other : Assigned). overlap this.bits other.bits) here (one ∷ [])))

  group_told : (number : ℕ) (b : Bool) (left : ℕ) (before : List Assigned) (group here : List Assigned) (all rest : List Driving) → Knows number b left all before here
      → doubles_after m all (map (driving number b left) group ++ rest)
      ≡ doubles_in_group m before here group ++ doubles_after m (all ++ map (driving number b left) group) rest
  group_told number b left before [] here all rest knows = ap (λ list. doubles_after m list rest) (sym (append-nil all))
  group_told number b left before (one ∷ group) here all rest knows =
      ap₂ ◌++◌
      (ap (λ e. cond e (failure one.at m.name one.bits.name ∷ []) []) (knows one))
      (group_told number b left before group (here ++ one ∷ []) (all ++ driving number b left one ∷ []) rest (knows_more number b left all before here one knows))
      ∙ sym (append_assoc (double_in m before here one) (doubles_in_group m before (here ++ one ∷ []) group)
      (doubles_after m ((all ++ driving number b left one ∷ []) ++ map (driving number b left) group) rest))
      ∙ ap (λ list. (double_in m before here one ++ doubles_in_group m before (here ++ one ∷ []) group) ++ doubles_after m list rest)
      (append_assoc all (driving number b left one ∷ []) (map (driving number b left) group))

  group-append : (before here group more : List Assigned)
      → doubles_in_group m before here (group ++ more) ≡ doubles_in_group m before here group ++ doubles_in_group m before (here ++ group) more
  group-append before here [] more = ap (λ list. doubles_in_group m before list more) (sym (append-nil here))
  group-append before here (one ∷ group) more =
      ap (λ list. double_in m before here one ++ list) (group-append before (here ++ one ∷ []) group more)
      ∙ sym (append_assoc (double_in m before here one) (doubles_in_group m before (here ++ one ∷ []) group) (doubles_in_group m before ((here ++ one ∷ []) ++ group) more))
      ∙ ap (λ list. (double_in m before here one ++ doubles_in_group m before (here ++ one ∷ []) group) ++ doubles_in_group m before list more) (append_assoc here (one ∷ []) group)

  -- ---- one item

  -- the left sides of an item that is no `always`
  plain_lefts : (number : ℕ) (before : List Assigned) (lefts : List (List Assigned)) (from : ℕ) (all rest : List Driving) (here : List Assigned) → map strip all ≡ before ++ here
      → doubles_after m all (of_lefts number false from lefts ++ rest)
      ≡ doubles_in_group m before here (joined lefts) ++ doubles_after m (all ++ of_lefts number false from lefts) rest
  plain_lefts number before [] from all rest here is = ap (λ list. doubles_after m list rest) (sym (append-nil all))
  plain_lefts number before (group ∷ lefts) from all rest here is =
      let first = map (driving number false from) group in
      let others = of_lefts number false (from + 1) lefts in
      ap (doubles_after m all) (append_assoc first others rest)
      ∙ group_told number false from before group here all (others ++ rest)
      (λ this. plain_any number from this all ∙ ap (λ list. overlaps_any list this) is ∙ list_any-append (λ (other : Assigned). overlap this.bits other.bits) before here)
      ∙ ap (λ list. doubles_in_group m before here group ++ list)
      (plain_lefts number before lefts (from + 1) (all ++ first) rest (here ++ group)
      (map-append strip all first ∙ ap₂ ◌++◌ is (stripped_left number false from group) ∙ append_assoc before here group))
      ∙ sym (append_assoc (doubles_in_group m before here group) (doubles_in_group m before (here ++ group) (joined lefts)) (doubles_after m ((all ++ first) ++ others) rest))
      ∙ ap₂ ◌++◌ (sym (group-append before here group (joined lefts))) (ap (λ list. doubles_after m list rest) (append_assoc all first others))

  -- what has bits in common with those before an `always`, in left sides from a number on
  abbrev KnowsFrom : ℕ → ℕ → List Driving → List Assigned → Type 0
  KnowsFrom number from all before =
      (left : ℕ) → from ≤ left → (this : Assigned) → list_any (clash (driving number true left this)) all ≡ overlaps_any before this

  always_lefts : (number : ℕ) (before : List Assigned) (lefts : List (List Assigned)) (from : ℕ) (all rest : List Driving) → KnowsFrom number from all before
      → doubles_after m all (of_lefts number true from lefts ++ rest)
      ≡ doubles_in_groups m before lefts ++ doubles_after m (all ++ of_lefts number true from lefts) rest
  always_lefts number before [] from all rest knows = ap (λ list. doubles_after m list rest) (sym (append-nil all))
  always_lefts number before (group ∷ lefts) from all rest knows =
      let first = map (driving number true from) group in
      let others = of_lefts number true (from + 1) lefts in
      ap (doubles_after m all) (append_assoc first others rest)
      ∙ group_told number true from before group [] all (others ++ rest)
      (λ this. knows from (omega arith) this ∙ sym (or_false (overlaps_any before this)))
      ∙ ap (λ list. doubles_in_group m before [] group ++ list)
      (always_lefts number before lefts (from + 1) (all ++ first) rest
      (λ left h this.
      list_any-append (clash (driving number true left this)) all first
      ∙ ap₂ ◌||◌ (knows left (omega (arith, h)) this) (shared_any number from left this group (omega (arith, h)))
      ∙ or_false (overlaps_any before this)))
      ∙ sym (append_assoc (doubles_in_group m before [] group) (doubles_in_groups m before lefts) (doubles_after m ((all ++ first) ++ others) rest))
      ∙ ap (λ list. (doubles_in_group m before [] group ++ doubles_in_groups m before lefts) ++ doubles_after m list rest) (append_assoc all first others)

  -- ---- all items

  -- what has bits in common with those of earlier items
  abbrev KnowsItems : ℕ → List Driving → List Assigned → Type 0
  KnowsItems number all before =
      (next : ℕ) → number ≤ next → (b : Bool) (left : ℕ) (this : Assigned) → list_any (clash (driving next b left this)) all ≡ overlaps_any before this

  plain_item : (number : ℕ) (before : List Assigned) (lefts : List (List Assigned)) (group : List Assigned) (all rest : List Driving) → map strip all ≡ before → joined lefts ≡ group
      → doubles_after m all (of_lefts number false 0 lefts ++ rest)
      ≡ doubles_in_groups m before (group ∷ []) ++ doubles_after m (all ++ of_lefts number false 0 lefts) rest
  plain_item number before lefts group all rest is same =
      plain_lefts number before lefts 0 all rest [] (is ∙ sym (append-nil before))
      ∙ ap (λ list. list ++ doubles_after m (all ++ of_lefts number false 0 lefts) rest)
      (ap (doubles_in_group m before []) same ∙ sym (append-nil (doubles_in_group m before [] group)))

  item_told : (design : Design) (number : ℕ) (before : List Assigned) (i : Item) (all rest : List Driving) → map strip all ≡ before → KnowsItems number all before
      → doubles_after m all (of_lefts number (is_always i) 0 (lefts_in design m i) ++ rest)
      ≡ doubles_in_groups m before (groups_of design m i) ++ doubles_after m (all ++ of_lefts number (is_always i) 0 (lefts_in design m i)) rest
  item_told design number before (item.Decl at dir kind range name) all rest is knows = ap (λ list. doubles_after m list rest) (sym (append-nil all))
  item_told design number before (item.Initial at name value) all rest is knows = ap (λ list. doubles_after m list rest) (sym (append-nil all))
  item_told design number before (item.Assign at left right) all rest is knows =
      plain_item number before (left_assigned m left ∷ []) (left_assigned m left) all rest is (append-nil (left_assigned m left))
  item_told design number before (item.Gate at kind name outs ins) all rest is knows =
      plain_item number before (map (left_assigned m) outs) (joined (map (left_assigned m) outs)) all rest is refl
  item_told design number before (item.Instance at inner name links) all rest is knows =
      plain_item number before (lefts_in design m (item.Instance at inner name links)) (instance_assigned design m inner links) all rest is (instance_told design m at inner name links)
  item_told design number before (item.Always at clock body) all rest is knows =
      always_lefts number before (lefts_in design m (item.Always at clock body)) 0 all rest (λ left h this. knows number (omega arith) true left this)

  items_told : (design : Design) (items : List Item) (number : ℕ) (all : List Driving) (before : List Assigned) → map strip all ≡ before → KnowsItems number all before
      → doubles_after m all (flat_map (drivings_of design m) (enumerate_from number items)) ≡ doubles_by_item design m before items
  items_told design [] number all before is knows = refl
  items_told design (i ∷ items) number all before is knows =
      let own = of_lefts number (is_always i) 0 (lefts_in design m i) in
      item_told design number before i all (flat_map (drivings_of design m) (enumerate_from (number + 1) items)) is knows
      ∙ ap (λ list. doubles_in_groups m before (groups_of design m i) ++ list)
      (items_told design items (number + 1) (all ++ own) (before ++ assigned_by design m i)
      (map-append strip all own ∙ ap₂ ◌++◌ is (stripped number (is_always i) 0 (lefts_in design m i) ∙ assigned_is design m i))
      (λ next h b left this.
      list_any-append (clash (driving next b left this)) all own
      ∙ ap₂ ◌||◌ (knows next (omega (arith, h)) b left this)
      (apart_any number next b left this (is_always i) 0 (lefts_in design m i) (omega (arith, h)) ∙ ap (λ list. overlaps_any list this) (assigned_is design m i))
      ∙ sym (list_any-append (λ (other : Assigned). overlap this.bits other.bits) before (assigned_by design m i))))

  pub doubles_told : (design : Design) → doubles_by_item design m [] m.items ≡ doubles_after m [] (drivings design m)
  doubles_told design = sym (items_told design m.items 0 [] [] refl (λ next h b left this. refl))

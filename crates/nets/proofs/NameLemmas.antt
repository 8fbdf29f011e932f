-- The names of a module are those of which it says something, and what it says of a name is found by the name.
use Rattle.std.proofs.Common.{◌≡◌, ℕ, suc, List, [], ◌∷◌, ◌++◌, Bool, true, false, not, ◌||◌, ◌&&◌, cond, Option, Some, None, is_some, refl, sym, ap, ◌∙◌, ◌+◌, filter, flat_map, length, map, nat_lt}
use Rattle.std.proofs.lemmas.List.Folds.{list_any-append}
use Rattle.std.proofs.lemmas.Slice.Eq.{bytes_eq-Decides}
use Rattle.std.specs.Borrow.{Bor}
use Rattle.std.specs.List.{cons_option, filter_map, find, list_any, position_or_len}
use Rattle.std.specs.Map.{lookup}
use Rattle.std.specs.Option.{IfSome, option_copied, option_map, unwrap_or}
use Rattle.std.specs.Prelude.{position}
use Rattle.bm_base.specs.declared.range.Range.{Range}
use Rattle.std.specs.Str.{bytes_eq}
use Rattle.vlog_tree.specs.declared.design.Module.{Module}
use Rattle.vlog_tree.specs.declared.item.Item.{Item}
use Rattle.vlog_tree.specs.declared.item.Item.TheVariants.{Always, Assign, Decl, Gate, Initial, Instance}
use Rattle.vlog_tree.specs.declared.left.Left.TheFolds.{fold-roll-Left}
use Rattle.vlog_tree.specs.declared.left.Left.TheOpen.{Left-F}
use Rattle.vlog_tree.specs.declared.left.Left.TheVariants as left
use Rattle.vlog_tree.specs.Meaning.Names.{declared_name, declares, firsts, implicit_names, is_implicit, is_named, names}
use Rattle.vlog_tree.specs.Meaning.Ranges.{range_of}
use Rattle.vlog_tree.specs.Meaning.Uses.{Text, Use, expr_uses, implicit_uses, item_uses, left_uses, left_uses_at, link_uses, use_of}
use Rattle.nets.specs.Nets.{Net, net_of, net_with, nets}
use Rattle.nets.specs.Placed.{entries_shown}
use Rattle.nets.proofs.KeptLemmas.{same_bytes}
use Rattle.nets.proofs.NetLemmas.{any_found, none_declared, nothing_said}

bytes_sym : (xs ys : Text) → bytes_eq xs ys ≡ bytes_eq ys xs
bytes_sym xs ys = by (bytes_eq xs ys) (bytes_eq ys xs) refl refl
  where
    by : (a b : Bool) → bytes_eq xs ys ≡ a → bytes_eq ys xs ≡ b → a ≡ b
    by true true is back = refl
    by false false is back = refl
    by true false is back = let back_is = (bytes_eq-Decides ys xs).1 (sym (same_bytes xs ys is)) in absurd (cc)
    by false true is back = let is_true = (bytes_eq-Decides xs ys).1 (sym (same_bytes ys xs back)) in absurd (cc)

any_filter : {X : Type 0} (test kept : X → Bool) → ((x : X) → test x ≡ true → kept x ≡ true)
    → (xs : List X) → list_any test (filter kept xs) ≡ list_any test xs
any_filter test kept implies [] = refl
any_filter {X = X} test kept implies (x ∷ xs) = by (kept x) (test x) refl refl (any_filter test kept implies xs)
  where
    by : (k t : Bool) → kept x ≡ k → test x ≡ t → list_any test (filter kept xs) ≡ list_any test xs
        → list_any test (cond k (x ∷ filter kept xs) (filter kept xs)) ≡ (t || list_any test xs)
    by true t k_is t_is ih = (λ j. t_is j || ih j)
    by false true k_is t_is ih = let k_true = implies x t_is in absurd (cc)
    by false false k_is t_is ih = ih

any_firsts : (name : Text) (xs : List Text) → list_any (bytes_eq name) (firsts xs) ≡ list_any (bytes_eq name) xs
any_firsts name [] = refl
any_firsts name (x ∷ xs) = by (bytes_eq name x) refl (any_firsts name xs)
  where
    by : (b : Bool) → bytes_eq name x ≡ b → list_any (bytes_eq name) (firsts xs) ≡ list_any (bytes_eq name) xs
        → (b || list_any (bytes_eq name) (filter (λ other. not (bytes_eq other x)) (firsts xs))) ≡ (b || list_any (bytes_eq name) xs)
    by true is ih = refl
    by false is ih =
        any_filter (bytes_eq name) (λ other. not (bytes_eq other x))
        (λ other found. ap (λ text. not (bytes_eq text x)) (sym (same_bytes name other found)) ∙ ap not is)
        (firsts xs)
        ∙ ih

declared_in : (name : Text) (items : List Item) → list_any (bytes_eq name) (filter_map declared_name items) ≡ list_any (declares name) items
declared_in name [] = refl
declared_in name (Decl at dir kind range other ∷ items) = let ih = declared_in name items in λ j. bytes_sym name other j || ih j
declared_in name (Assign at left right ∷ items) = declared_in name items
declared_in name (Gate at kind label outs ins ∷ items) = declared_in name items
declared_in name (Instance at inner label links ∷ items) = declared_in name items
declared_in name (Always at clock body ∷ items) = declared_in name items
declared_in name (Initial at other value ∷ items) = declared_in name items

any_of_filter : {X : Type 0} (test kept : X → Bool) (xs : List X) → list_any test (filter kept xs) ≡ true → list_any test xs ≡ true
any_of_filter test kept [] found = found
any_of_filter test kept (x ∷ xs) found = by (kept x) (test x) refl found (any_of_filter test kept xs)
  where
    by : (k t : Bool) → test x ≡ t → list_any test (cond k (x ∷ filter kept xs) (filter kept xs)) ≡ true
        → (list_any test (filter kept xs) ≡ true → list_any test xs ≡ true) → (t || list_any test xs) ≡ true
    by k true is found ih = refl
    by true false is found ih = ih (ap (λ b. b || list_any test (filter kept xs)) (sym is) ∙ found)
    by false false is found ih = ih found

or_implies : (a b c d : Bool) → (a ≡ true → c ≡ true) → (b ≡ true → d ≡ true) → (a || b) ≡ true → (c || d) ≡ true
or_implies true b c d first second is = ap (λ c. c || d) (first refl)
or_implies false b true d first second is = refl
or_implies false b false d first second is = second is

left_uses-Whole : (at : ℕ) (name : Text) → left_uses (left.Whole at name) ≡ use_of at name true ∷ []
left_uses-Whole at name = ap left_uses (sym (left.rolls-Whole at name)) ∙ fold-roll-Left (List Use) left_uses_at (Left-F.Whole at name)

-- a name that stands for a declaration in an item is used there
stands_used : (name : Text) (item : Item) → list_any (is_named name) (implicit_uses item) ≡ true → list_any (is_named name) (item_uses item) ≡ true
stands_used name (Decl at dir kind range other) found = found
stands_used name (Assign at (left.Whole at' other) right) found =
    ap (λ uses. list_any (is_named name) (uses ++ expr_uses right)) (left_uses-Whole at' other)
    ∙ or_implies (bytes_eq other name) false (bytes_eq other name) (list_any (is_named name) (expr_uses right)) (λ is. is) (λ is. absurd (cc)) found
stands_used name (Assign at (left.Bit at' other index) right) found = absurd (cc)
stands_used name (Assign at (left.Part at' other range) right) found = absurd (cc)
stands_used name (Assign at (left.Join' shape parts) right) found = absurd (cc)
stands_used name (Gate at kind label outs ins) found = any_of_filter (is_named name) (λ one. one.is_whole) (flat_map left_uses outs ++ flat_map expr_uses ins) found
stands_used name (Instance at inner label links) found = any_of_filter (is_named name) (λ one. one.is_whole) (flat_map link_uses links) found
stands_used name (Always at clock body) found = absurd (cc)
stands_used name (Initial at other value) found = absurd (cc)

all_stand_used : (name : Text) (items : List Item) → list_any (is_named name) (flat_map implicit_uses items) ≡ true → list_any (is_named name) (flat_map item_uses items) ≡ true
all_stand_used name [] found = found
all_stand_used name (item ∷ items) found =
    list_any-append (is_named name) (item_uses item) (flat_map item_uses items)
    ∙ or_implies (list_any (is_named name) (implicit_uses item)) (list_any (is_named name) (flat_map implicit_uses items))
    (list_any (is_named name) (item_uses item)) (list_any (is_named name) (flat_map item_uses items))
    (stands_used name item) (all_stand_used name items)
    (sym (list_any-append (is_named name) (implicit_uses item) (flat_map implicit_uses items)) ∙ found)

used_in : (name : Text) (uses : List Use) → list_any (bytes_eq name) (map (λ one. one.name) uses) ≡ list_any (is_named name) uses
used_in name [] = refl
used_in name (one ∷ uses) = let ih = used_in name uses in λ j. bytes_sym name one.name j || ih j

or_right : (a b : Bool) → b ≡ true → (a || b) ≡ true
or_right true b is = refl
or_right false b is = is

or_left : (a b : Bool) → a ≡ true → (a || b) ≡ true
or_left true b is = refl
or_left false b is = absurd (cc)

module _ (m : Module) (name : Text) where
  any_names : list_any (bytes_eq name) (names m)
      ≡ ((list_any (bytes_eq name) m.ports || list_any (declares name) m.items) || list_any (bytes_eq name) (implicit_names m))
  any_names =
      any_firsts name (m.ports ++ filter_map declared_name m.items ++ implicit_names m)
      ∙ list_any-append (bytes_eq name) (m.ports ++ filter_map declared_name m.items) (implicit_names m)
      ∙ ap (λ b. b || list_any (bytes_eq name) (implicit_names m))
      (list_any-append (bytes_eq name) m.ports (filter_map declared_name m.items)
      ∙ ap (λ b. list_any (bytes_eq name) m.ports || b) (declared_in name m.items))

  implicit_in : is_implicit m name ≡ true → list_any (bytes_eq name) (implicit_names m) ≡ list_any (is_named name) (flat_map item_uses m.items)
  implicit_in is =
      any_filter (bytes_eq name) (is_implicit m) (λ other found. ap (is_implicit m) (sym (same_bytes name other found)) ∙ is)
      (map (λ one. one.name) (flat_map item_uses m.items))
      ∙ used_in name (flat_map item_uses m.items)

  -- a name of which the module says something is one of its names
  said_named : cond (list_any (bytes_eq name) (names m)) (net_of m name) None ≡ net_of m name
  said_named = by (find (declares name) m.items) refl (list_any (is_named name) (flat_map implicit_uses m.items)) refl
    where
      named : list_any (bytes_eq name) (names m) ≡ true → cond (list_any (bytes_eq name) (names m)) (net_of m name) None ≡ net_of m name
      named is = ap (λ b. cond b (net_of m name) None) is

      unsaid : net_of m name ≡ None → cond (list_any (bytes_eq name) (names m)) (net_of m name) None ≡ net_of m name
      unsaid is = both (list_any (bytes_eq name) (names m))
        where
          both : (b : Bool) → cond b (net_of m name) None ≡ net_of m name
          both true = refl
          both false = sym is

      by : (declaring : Option Item) → find (declares name) m.items ≡ declaring → (stands : Bool) → list_any (is_named name) (flat_map implicit_uses m.items) ≡ stands
          → cond (list_any (bytes_eq name) (names m)) (net_of m name) None ≡ net_of m name
      by (Some item) found stands is =
          named (any_names
          ∙ or_left (list_any (bytes_eq name) m.ports || list_any (declares name) m.items) (list_any (bytes_eq name) (implicit_names m))
          (or_right (list_any (bytes_eq name) m.ports) (list_any (declares name) m.items) (any_found (declares name) m.items ∙ ap is_some found)))
      by None found true is =
          named (any_names
          ∙ or_right (list_any (bytes_eq name) m.ports || list_any (declares name) m.items) (list_any (bytes_eq name) (implicit_names m))
          (implicit_in (ap (λ b. not b && list_any (is_named name) (flat_map implicit_uses m.items)) (any_found (declares name) m.items ∙ ap is_some found) ∙ is)
          ∙ all_stand_used name m.items is))
      by None found false is = unsaid (nothing_said m name (none_declared m name found) is)

  -- what is found by a name in the names that it says something of
  found_said : (said : Text → Option Net) (others : List Text)
      → lookup (bytes_eq name) (filter_map (λ other. option_map (λ net. (other, net)) (said other)) others) ≡ cond (list_any (bytes_eq name) others) (said name) None
  found_said said [] = refl
  found_said said (other ∷ others) = by (bytes_eq name other) refl (said other) refl (found_said said others)
    where
      by : (b : Bool) → bytes_eq name other ≡ b → (known : Option Net) → said other ≡ known
          → lookup (bytes_eq name) (filter_map (λ other. option_map (λ net. (other, net)) (said other)) others) ≡ cond (list_any (bytes_eq name) others) (said name) None
          → lookup (bytes_eq name) (cons_option (option_map (λ net. (other, net)) known) (filter_map (λ other. option_map (λ net. (other, net)) (said other)) others))
          ≡ cond (b || list_any (bytes_eq name) others) (said name) None
      by b is (Some net) known_is ih = first b is ih
        where
          first : (b : Bool) → bytes_eq name other ≡ b
              → lookup (bytes_eq name) (filter_map (λ other. option_map (λ net. (other, net)) (said other)) others) ≡ cond (list_any (bytes_eq name) others) (said name) None
              → cond (bytes_eq name other) (Some net) (lookup (bytes_eq name) (filter_map (λ other. option_map (λ net. (other, net)) (said other)) others))
              ≡ cond (b || list_any (bytes_eq name) others) (said name) None
          first true is ih =
              ap (λ b. cond b (Some net) (lookup (bytes_eq name) (filter_map (λ other. option_map (λ net. (other, net)) (said other)) others))) is
              ∙ sym (ap said (same_bytes name other is) ∙ known_is)
          first false is ih =
              ap (λ b. cond b (Some net) (lookup (bytes_eq name) (filter_map (λ other. option_map (λ net. (other, net)) (said other)) others))) is
              ∙ ih
      by false is None known_is ih = ih
      by true is None known_is ih =
          let none_said : said name ≡ None = ap said (same_bytes name other is) ∙ known_is in
          ih ∙ ap (λ known. cond (list_any (bytes_eq name) others) known None) none_said ∙ neither (list_any (bytes_eq name) others) ∙ sym none_said
        where
          neither : (b : Bool) → ◌≡◌ {A = Option Net} (cond b None None) None
          neither true = refl
          neither false = refl

  found_shown : (entries : List (Bor Text × Net)) → lookup (λ key. bytes_eq name key.now) entries ≡ lookup (bytes_eq name) (entries_shown entries)
  found_shown [] = refl
  found_shown (one ∷ entries) = ap (cond (bytes_eq name one.0.now) (Some one.1)) (found_shown entries)

  -- what a table of the module's names finds by a name
  pub found_net : (entries : List (Bor Text × Net)) → entries_shown entries ≡ nets m → lookup (λ key. bytes_eq name key.now) entries ≡ net_of m name
  found_net entries is =
      found_shown entries ∙ ap (lookup (bytes_eq name)) is ∙ found_said (net_of m) (names m) ∙ said_named

  -- what was found of the name, by its range
  pub found_range : (result : Option (Bor Net)) → option_copied result ≡ net_of m name → option_map (λ net. net.now.range) result ≡ range_of m name
  found_range result is = copied result ∙ ap (option_map (λ (net : Net). net.range)) is ∙ ranged (range_of m name)
    where
      copied : (result : Option (Bor Net)) → option_map (λ (net : Bor Net). net.now.range) result ≡ option_map (λ (net : Net). net.range) (option_copied result)
      copied None = refl
      copied (Some net) = refl

      ranged : (range : Option Range) → option_map (λ (net : Net). net.range) (option_map (net_with m name) range) ≡ range
      ranged None = refl
      ranged (Some range) = refl

  -- It is found where it has a range.
  pub found_where_ranged : (entries : List (Bor Text × Net)) → entries_shown entries ≡ nets m → is_some (lookup (λ key. bytes_eq name key.now) entries) ≡ is_some (range_of m name)
  found_where_ranged entries is = ap is_some (found_net entries is) ∙ ranged (range_of m name)
    where
      ranged : (range : Option Range) → is_some (option_map (net_with m name) range) ≡ is_some range
      ranged None = refl
      ranged (Some range) = refl

  -- It is among the module's names where it has a range.
  pub named_where_ranged : is_some (lookup (bytes_eq name) (nets m)) ≡ is_some (range_of m name)
  named_where_ranged = ap is_some (found_said (net_of m) (names m) ∙ said_named) ∙ ranged (range_of m name)
    where
      ranged : (range : Option Range) → is_some (option_map (net_with m name) range) ≡ is_some range
      ranged None = refl
      ranged (Some range) = refl

  pub found_with : (result : Option (Bor Net)) → option_copied result ≡ net_of m name → IfSome result (λ net. net.now ≡ net_with m name net.now.range)
  found_with result is = by result (range_of m name) is
    where
      by : (result : Option (Bor Net)) (range : Option Range) → option_copied result ≡ option_map (net_with m name) range
          → IfSome result (λ net. net.now ≡ net_with m name net.now.range)
      by None range is = tt
      by (Some net) None is = absurd (cc)
      by (Some net) (Some range) is =
          let same : net.now ≡ net_with m name range = ap (λ known. unwrap_or known net.now) is in
          same ∙ ap (net_with m name) (sym (ap (λ (net : Net). net.range) same))

  -- the place of the name in a table, by its names
  pub found_place : (entries : List (Bor Text × Net)) → entries_shown entries ≡ nets m
      → position (λ key. bytes_eq name key.now) (map (λ entry. entry.0) entries) ≡ position (λ entry. bytes_eq name entry.0) (nets m)
  found_place entries is =
      ap (λ place. cond (nat_lt place (length (map (λ entry. entry.0) entries))) (Some place) None) (placed entries)
      ∙ ap (λ len. cond (nat_lt (position_or_len (λ entry. bytes_eq name entry.0) (entries_shown entries)) len) (Some (position_or_len (λ entry. bytes_eq name entry.0) (entries_shown entries))) None) (as_long entries)
      ∙ ap (position (λ entry. bytes_eq name entry.0)) is
    where
      placed : (entries : List (Bor Text × Net))
          → position_or_len (λ key. bytes_eq name key.now) (map (λ entry. entry.0) entries) ≡ position_or_len (λ entry. bytes_eq name entry.0) (entries_shown entries)
      placed [] = refl
      placed (one ∷ entries) = ap (λ place. cond (not (bytes_eq name one.0.now)) (1 + place) 0) (placed entries)

      as_long : (entries : List (Bor Text × Net)) → length (map (λ entry. entry.0) entries) ≡ length (entries_shown entries)
      as_long [] = refl
      as_long (one ∷ entries) = ap suc (as_long entries)

-- What names that are placed one after another come to.
use Rattle.std.proofs.Common.{◌≡◌, List, [], ◌∷◌, ◌++◌, Bool, true, false, not, ◌||◌, cond, Option, Some, None, is_some, refl, sym, ap, ◌∙◌, filter}
use Rattle.std.proofs.lemmas.List.{append-nil, append_assoc, map-append}
use Rattle.std.proofs.lemmas.List.Folds.{list_any-append}
use Rattle.std.specs.Borrow.{Bor}
use Rattle.std.specs.List.{cons_option, filter_map}
use Rattle.std.specs.Map.{lookup}
use Rattle.std.specs.Option.{option_map}
use Rattle.std.specs.Str.{bytes_eq}
use Rattle.vlog_tree.specs.declared.item.Item.{Item}
use Rattle.vlog_tree.specs.Meaning.Names.{declared_name, firsts}
use Rattle.vlog_tree.specs.Meaning.Uses.{Text}
use Rattle.nets.specs.Nets.{Net}
use Rattle.nets.specs.Placed.{Entries, entries_shown, entry_of, has_name, one_placed, placed}
use Rattle.nets.proofs.KeptLemmas.{same_bytes}

-- what a test keeps of a function's values
abbrev kept : {X Y : Type 0} → (X → Bool) → (X → Option Y) → X → Option Y
kept test f x = cond (test x) (f x) None

filter_map_filter : {X Y : Type 0} (test : X → Bool) (f : X → Option Y) (xs : List X) → filter_map f (filter test xs) ≡ filter_map (kept test f) xs
filter_map_filter test f [] = refl
filter_map_filter test f (x ∷ xs) = by (test x) (filter_map_filter test f xs)
  where
    by : (b : Bool) → filter_map f (filter test xs) ≡ filter_map (kept test f) xs
        → filter_map f (cond b (x ∷ filter test xs) (filter test xs)) ≡ cons_option (cond b (f x) None) (filter_map (kept test f) xs)
    by true ih = ap (cons_option (f x)) ih
    by false ih = ih

-- two tests one after the other keep what a third keeps
filter_twice : {X Y : Type 0} (outer inner other : X → Bool) (f : X → Option Y) → ((x : X) → kept inner (kept outer f) x ≡ kept other f x)
    → (xs : List X) → filter_map f (filter outer (filter inner xs)) ≡ filter_map f (filter other xs)
filter_twice outer inner other f same xs =
    filter_map_filter outer f (filter inner xs)
    ∙ filter_map_filter inner (kept outer f) xs
    ∙ (λ j. filter_map (λ x. same x j) xs)
    ∙ sym (filter_map_filter other f xs)

filter_map_cond : {X Y : Type 0} (f : X → Option Y) (b : Bool) (x : X) (xs : List X)
    → filter_map f (cond b (x ∷ xs) xs) ≡ cond b (cons_option (f x) (filter_map f xs)) (filter_map f xs)
filter_map_cond f true x xs = refl
filter_map_cond f false x xs = refl

cond_none : {X : Type 0} (b : Bool) → ◌≡◌ {A = Option X} (cond b None None) None
cond_none true = refl
cond_none false = refl

module _ (said : Text → Option Net) where
  abbrev entry : Text → Option (Text × Net)
  entry name = option_map (λ net. (name, net)) (said name)

  abbrev is_new : Entries → Text → Bool
  is_new entries name = not (has_name name entries)

  abbrev is_other : Text → Text → Bool
  is_other name other = not (bytes_eq other name)

  -- a name that is there
  there : (entries : Entries) (name : Text) → has_name name entries ≡ true
      → (x : Text) → kept (is_other name) (kept (is_new entries) entry) x ≡ kept (is_new entries) entry x
  there entries name here x = by (bytes_eq x name) refl
    where
      by : (b : Bool) → bytes_eq x name ≡ b → cond (not b) (kept (is_new entries) entry x) None ≡ kept (is_new entries) entry x
      by false is = refl
      by true is = sym (ap (λ had. cond (not had) (entry x) None) (ap (λ text. has_name text entries) (same_bytes x name is) ∙ here))

  -- a name of which nothing is said
  unsaid : (entries : Entries) (name : Text) → said name ≡ None
      → (x : Text) → kept (is_other name) (kept (is_new entries) entry) x ≡ kept (is_new entries) entry x
  unsaid entries name nothing x = by (bytes_eq x name) refl
    where
      by : (b : Bool) → bytes_eq x name ≡ b → cond (not b) (kept (is_new entries) entry x) None ≡ kept (is_new entries) entry x
      by false is = refl
      by true is =
          sym (ap (λ known. cond (is_new entries x) (option_map (λ net. (x, net)) known) None) (ap said (same_bytes x name is) ∙ nothing)
          ∙ cond_none (is_new entries x))

  -- a name that is put behind the others
  behind : (entries : Entries) (name : Text) (net : Net)
      → (x : Text) → kept (is_other name) (kept (is_new entries) entry) x ≡ kept (is_new (entries ++ (name, net) ∷ [])) entry x
  behind entries name net x =
      by (has_name x entries) (bytes_eq x name)
      ∙ sym (ap (λ had. cond (not had) (entry x) None) (list_any-append (λ (one : Text × Net). bytes_eq x one.0) entries ((name, net) ∷ [])))
    where
      by : (had is : Bool) → cond (not is) (cond (not had) (entry x) None) None ≡ cond (not (had || (is || false))) (entry x) None
      by true true = refl
      by true false = refl
      by false true = refl
      by false false = refl

  placed_is : (names : List Text) (entries : Entries)
      → placed said entries names ≡ entries ++ filter_map entry (filter (is_new entries) (firsts names))
  placed_is [] entries = sym (append-nil entries)
  placed_is (name ∷ names) entries =
      by (has_name name entries) refl (said name) refl (placed_is names)
      ∙ ap (λ rest. entries ++ rest) (sym (filter_map_cond entry (is_new entries name) name (filter (is_new entries) (filter (is_other name) (firsts names)))))
    where
      by : (b : Bool) → has_name name entries ≡ b → (known : Option Net) → said name ≡ known
          → ((entries : Entries) → placed said entries names ≡ entries ++ filter_map entry (filter (is_new entries) (firsts names)))
          → placed said (cond b entries (entries ++ entry_of name known)) names
          ≡ entries ++ cond (not b) (cons_option (option_map (λ net. (name, net)) known) (filter_map entry (filter (is_new entries) (filter (is_other name) (firsts names)))))
          (filter_map entry (filter (is_new entries) (filter (is_other name) (firsts names))))
      by true here known is ih =
          ih entries
          ∙ ap (λ rest. entries ++ rest) (sym (filter_twice (is_new entries) (is_other name) (is_new entries) entry (there entries name here) (firsts names)))
      by false here None is ih =
          ap (λ entries. placed said entries names) (append-nil entries)
          ∙ ih entries
          ∙ ap (λ rest. entries ++ rest) (sym (filter_twice (is_new entries) (is_other name) (is_new entries) entry (unsaid entries name is) (firsts names)))
      by false here (Some net) is ih =
          ih (entries ++ (name, net) ∷ [])
          ∙ append_assoc entries ((name, net) ∷ []) (filter_map entry (filter (is_new (entries ++ (name, net) ∷ [])) (firsts names)))
          ∙ ap (λ rest. entries ++ (name, net) ∷ rest)
          (sym (filter_twice (is_new entries) (is_other name) (is_new (entries ++ (name, net) ∷ [])) entry (behind entries name net) (firsts names)))

  pub placed_append : (first more : List Text) (entries : Entries) → placed said (placed said entries first) more ≡ placed said entries (first ++ more)
  placed_append [] more entries = refl
  placed_append (name ∷ first) more entries = placed_append first more (one_placed said entries name)

  -- three lists of names, one behind the other
  pub three_placed : (first second third : List Text) (one two three : Entries)
      → one ≡ placed said [] first → two ≡ placed said one second → three ≡ placed said two third
      → three ≡ filter_map entry (firsts (first ++ second ++ third))
  three_placed first second third one two three one_is two_is three_is =
      three_is
      ∙ ap (λ entries. placed said entries third) (two_is ∙ ap (λ entries. placed said entries second) one_is ∙ placed_append first second [])
      ∙ placed_append (first ++ second) third []
      ∙ placed_is (first ++ second ++ third) []
      ∙ filter_map_filter (is_new []) entry (firsts (first ++ second ++ third))

  -- the names that items declare
  pub declared_more : (item : Item) (items : List Item) (entries : Entries)
      → placed said (placed said entries (filter_map declared_name (item ∷ []))) (filter_map declared_name items) ≡ placed said entries (filter_map declared_name (item ∷ items))
  declared_more item items entries = by (declared_name item)
    where
      by : (name : Option Text) → placed said (placed said entries (cons_option name [])) (filter_map declared_name items) ≡ placed said entries (cons_option name (filter_map declared_name items))
      by None = refl
      by (Some name) = refl

  -- the names that pass a test
  pub tested_more : (test : Text → Bool) (name : Text) (names : List Text) (entries : Entries)
      → placed said (placed said entries (filter test (name ∷ []))) (filter test names) ≡ placed said entries (filter test (name ∷ names))
  tested_more test name names entries = by (test name)
    where
      by : (b : Bool) → placed said (placed said entries (cond b (name ∷ []) [])) (filter test names) ≡ placed said entries (cond b (name ∷ filter test names) (filter test names))
      by true = refl
      by false = refl

-- a name that is there stays as it is
pub place_there : (said : Text → Option Net) (name : Text) (entries : List (Bor Text × Net)) → has_name name (entries_shown entries) ≡ true
    → entries_shown entries ≡ one_placed said (entries_shown entries) name
place_there said name entries here = sym (ap (λ had. cond had (entries_shown entries) (entries_shown entries ++ entry_of name (said name))) here)

-- a name that is put behind the others
pub place_new : (said : Text → Option Net) (name : Bor Text) (net : Net) (entries new : List (Bor Text × Net)) → has_name name.now (entries_shown entries) ≡ false
    → said name.now ≡ Some net → new ≡ entries ++ (name, net) ∷ [] → entries_shown new ≡ one_placed said (entries_shown entries) name.now
place_new said name net entries new here is longer =
    ap entries_shown longer
    ∙ map-append (λ (one : Bor Text × Net). (one.0.now, one.1)) entries ((name, net) ∷ [])
    ∙ sym (ap (λ had. cond had (entries_shown entries) (entries_shown entries ++ entry_of name.now (said name.now))) here
    ∙ ap (λ known. entries_shown entries ++ entry_of name.now known) is)

not_some : {X : Type 0} (known : Option X) → is_some known ≡ false → known ≡ None
not_some None is = refl
not_some (Some x) is = absurd (cc)

pub none_found : {X : Type 0} (known : Option X) (b : Bool) → b ≡ is_some known → b ≡ false → known ≡ None
none_found known b is absent = not_some known (sym is ∙ absent)

-- a key that is found is a name that is there
pub has_shown : (name : Text) (entries : List (Bor Text × Net)) → is_some (lookup (λ key. bytes_eq name key.now) entries) ≡ has_name name (entries_shown entries)
has_shown name [] = refl
has_shown name (one ∷ entries) = by (bytes_eq name one.0.now) (has_shown name entries)
  where
    by : (b : Bool) → is_some (lookup (λ (key : Bor Text). bytes_eq name key.now) entries) ≡ has_name name (entries_shown entries)
        → is_some (cond b (Some one.1) (lookup (λ (key : Bor Text). bytes_eq name key.now) entries)) ≡ (b || has_name name (entries_shown entries))
    by true ih = refl
    by false ih = ih

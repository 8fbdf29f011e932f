-- What things give to a key that give one after another, and what all instances give to it.
use Rattle.std.specs.Prelude.{◌≡◌, ℕ, zero, suc, ◌+◌, List, [], ◌∷◌, ◌++◌, Bool, Option, None, Some, flat_map, length, refl, slice_get}
use Rattle.std.specs.Option.{option_or}
use Rattle.std.proofs.Common.{ap, arith, sym, subst, ◌∙◌}
use Rattle.std.proofs.lemmas.Option.{same_Some}
use Rattle.flat_net.specs.declared.edge.Edge.{Edge}
use Rattle.flat_net.specs.Values.{Reading}
use Rattle.vlog_tree.specs.declared.key.Key.{Key}
use Rattle.vlog_tree.specs.Meaning.Instances.{Instance}
use Rattle.vlog_tree.specs.Meaning.Setting.{Setting}
use Rattle.lowering.specs.Meaning.{Holds, Relation}
use Rattle.lowering.proofs.LoweredLemmas.{holds-append}
use Rattle.processes.specs.Statements.{Registers}
use Rattle.flat_design.specs.Instances.{Whole, instance_given, whole_from}
use Rattle.flat_design.specs.Items.{Drive, Given, Giving, each, followed_by, nothing_given}
use Rattle.flat_design.proofs.DriveLemmas.{Agrees, agrees_append, first_append, first_edge, none_append}

-- ---- a part of what is given: its drives, or its ports

abbrev pub Part : Type 0
Part = Given → List Drive

pub record IsPart (part : Part) : Type 0 where
  pub none : (before : Registers) → part (nothing_given before) ≡ []
  pub both : (one rest : Given) → part (followed_by one rest) ≡ part one ++ part rest

pub drives_part : IsPart (λ given. given.drives)
drives_part = record { none = λ before. refl; both = λ one rest. refl }

pub ports_part : IsPart (λ given. given.ports)
ports_part = record { none = λ before. refl; both = λ one rest. refl }

-- ---- one after another

module _ (part : Part) (is : IsPart part) (key : Key) {X : Type 0} (giving : X → Giving) where
  -- Where each gives nothing to the key, all together give nothing to it.
  pub each_none : (xs : List X) → ((x : X) (before : Registers) (next : ℕ) → first_edge (part (giving x before next)) key ≡ None)
      → (before : Registers) (next : ℕ) → first_edge (part (each giving xs before next)) key ≡ None
  each_none [] none before next = ap (λ drives. first_edge drives key) (is.none before)
  each_none (x ∷ xs) none before next =
      let one : Given = giving x before next in
      let rest : Given = each giving xs one.registers (next + length one.nodes) in
      ap (λ drives. first_edge drives key) (is.both one rest)
      ∙ none_append (part one) (part rest) key (none x before next) (each_none xs none one.registers (next + length one.nodes))

  module _ (rel : Relation) (read : Reading) (state row : List Bool) {D : Type 0} (value : D → Option Bool) (entries : X → List D) where
    -- What is given to the key agrees with these entries, where the nodes are read.
    abbrev pub GivesTo : X → Type 0
    GivesTo x =
        (before : Registers) (next : ℕ) → Holds rel read state row next (giving x before next).nodes
        → Agrees rel read value (entries x) (first_edge (part (giving x before next)) key)

    pub each_agrees : (xs : List X) → ((j : ℕ) (x : X) → slice_get xs j ≡ Some x → GivesTo x)
        → (before : Registers) (next : ℕ) → Holds rel read state row next (each giving xs before next).nodes
        → Agrees rel read value (flat_map entries xs) (first_edge (part (each giving xs before next)) key)
    each_agrees [] all before next holds = ap (λ drives. first_edge drives key) (is.none before)
    each_agrees (x ∷ xs) all before next holds =
        let one : Given = giving x before next in
        let rest : Given = each giving xs one.registers (next + length one.nodes) in
        let both = holds-append rel read state row next one.nodes rest.nodes holds in
        subst (Agrees rel read value (flat_map entries (x ∷ xs)))
        (sym (ap (λ drives. first_edge drives key) (is.both one rest) ∙ first_append (part one) (part rest) key))
        (agrees_append rel read value (entries x) (flat_map entries xs) (first_edge (part one) key) (first_edge (part rest) key)
        (all 0 x refl before next both.0)
        (each_agrees xs (λ j y at. all (suc j) y at) one.registers (next + length one.nodes) both.1))

-- ---- all instances

or_none : (o : Option Edge) → option_or o None ≡ o
or_none None = refl
or_none (Some edge) = refl

-- the same part of what all instances give
pub record IsWholePart (setting : Setting) (part : Part) (all : Whole → List Drive) : Type 0 where
  pub none : (next : ℕ) → all (whole_from setting next []) ≡ []
  pub both : (next : ℕ) (instance : Instance) (others : List Instance)
      → all (whole_from setting next (instance ∷ others))
      ≡ part (instance_given setting instance next)
      ++ all (whole_from setting (next + length (instance_given setting instance next).nodes) others)

pub drives_whole : (setting : Setting) → IsWholePart setting (λ given. given.drives) (λ whole. whole.drives)
drives_whole setting = record { none = λ next. refl; both = λ next instance others. refl }

pub ports_whole : (setting : Setting) → IsWholePart setting (λ given. given.ports) (λ whole. whole.ports)
ports_whole setting = record { none = λ next. refl; both = λ next instance others. refl }

module _ (setting : Setting) (part : Part) (all : Whole → List Drive) (is : IsWholePart setting part all) (key : Key) where
  -- The instance gives nothing to the key, whatever number its nodes begin with.
  abbrev pub GivesNothing : Instance → Type 0
  GivesNothing instance = (start : ℕ) → first_edge (part (instance_given setting instance start)) key ≡ None

  whole_none : (list : List Instance) → ((j : ℕ) (instance : Instance) → slice_get list j ≡ Some instance → GivesNothing instance)
      → (next : ℕ) → first_edge (all (whole_from setting next list)) key ≡ None
  whole_none [] none next = ap (λ drives. first_edge drives key) (is.none next)
  whole_none (instance ∷ others) none next =
      let one : Given = instance_given setting instance next in
      ap (λ drives. first_edge drives key) (is.both next instance others)
      ∙ none_append (part one) (all (whole_from setting (next + length one.nodes) others)) key (none 0 instance refl next)
      (whole_none others (λ j other at. none (suc j) other at) (next + length one.nodes))

  module _ (rel : Relation) (read : Reading) (state row : List Bool) where
    -- All that is given to the key is what one instance gives to it, and the nodes of that are read.
    pub record IsGivenBy (next : ℕ) (list : List Instance) (instance : Instance) : Type 0 where
      pub start : ℕ
      pub holds : Holds rel read state row start (instance_given setting instance start).nodes
      pub same : first_edge (part (instance_given setting instance start)) key ≡ first_edge (all (whole_from setting next list)) key

    pub given_by : (list : List Instance) (next i : ℕ) (instance : Instance) → slice_get list i ≡ Some instance
        → Holds rel read state row next (whole_from setting next list).nodes
        → ((j : ℕ) (other : Instance) → slice_get list j ≡ Some other → (j ≡ i → ⊥) → GivesNothing other)
        → IsGivenBy next list instance
    given_by [] next i instance at holds others = absurd cc
    given_by (first ∷ list) next zero instance at holds others =
        let same : first ≡ instance = same_Some first instance at in
        let one : Given = instance_given setting first next in
        let rest : Whole = whole_from setting (next + length one.nodes) list in
        let both = holds-append rel read state row next one.nodes rest.nodes holds in
        subst (IsGivenBy next (first ∷ list)) same (record {
          start = next;
          holds = both.0;
          same = sym (ap (λ drives. first_edge drives key) (is.both next first list)
              ∙ first_append (part one) (all rest) key
              ∙ ap (option_or (first_edge (part one) key))
              (whole_none list (λ j other there. others (suc j) other there (λ e. omega (arith, e))) (next + length one.nodes))
              ∙ or_none (first_edge (part one) key));
        })
    given_by (first ∷ list) next (suc i) instance at holds others =
        let one : Given = instance_given setting first next in
        let rest : Whole = whole_from setting (next + length one.nodes) list in
        let both = holds-append rel read state row next one.nodes rest.nodes holds in
        let found : IsGivenBy (next + length one.nodes) list instance =
        given_by list (next + length one.nodes) i instance at both.1
        (λ j other there apart. others (suc j) other there (λ e. apart (omega (arith, e)))) in
        record {
          start = found.start;
          holds = found.holds;
          same = found.same
              ∙ sym (ap (λ drives. first_edge drives key) (is.both next first list)
              ∙ first_append (part one) (all rest) key
              ∙ ap (λ o. option_or o (first_edge (all rest) key)) (others 0 first refl (λ e. omega (arith, e)) next));
        }

-- In a module whose names are right no register is an input.
use Rattle.std.proofs.Common.{◌≡◌, ℕ, List, [], ◌∷◌, ◌++◌, Bool, true, false, ◌&&◌, ◌||◌, Option, None, Some, refl, ap, sym, subst, ◌∙◌, append_assoc, is_some, nat_lt, not}
use Rattle.std.specs.List.{list_any}
use Rattle.std.specs.Option.{unwrap_or}
use Rattle.std.specs.Str.{bytes_eq}
use Rattle.std.proofs.lemmas.List.{append-nil}
use Rattle.std.proofs.lemmas.List.Folds.{list_any-append}
use Rattle.bm_base.specs.declared.range.Range.{Range}
use Rattle.hierarchy.specs.Failures.{failure}
use Rattle.name_rules.specs.Declarations.{bad_declaration, bad_declarations, bad_declarations_after, bad_names, bad_ports, declares_again, differs_in_range, is_among, is_bad_declaration, is_input_register, shared_names}
use Rattle.vlog_tree.specs.declared.design.Module.{Module}
use Rattle.vlog_tree.specs.declared.item.Dir.{Dir}
use Rattle.vlog_tree.specs.declared.item.Dir.TheVariants.{Input, Output}
use Rattle.vlog_tree.specs.declared.item.Item.{Item}
use Rattle.vlog_tree.specs.declared.item.Item.TheVariants.{Always, Assign, Decl, Gate, Initial, Instance}
use Rattle.vlog_tree.specs.declared.item.NetKind.{NetKind}
use Rattle.vlog_tree.specs.declared.item.NetKind.TheVariants.{Plain, Reg, Wire}
use Rattle.vlog_tree.specs.Meaning.Names.{declares_input, declares_register, is_input, is_register}
use Rattle.vlog_tree.specs.Meaning.Ranges.{scalar, span}
use Rattle.vlog_tree.specs.Meaning.Uses.{Text}
use Rattle.vlog_tree.specs.Meaning.Widths.{greatest}
use Rattle.design_laws.proofs.Members.{left_none, not_noted, right_none}
use Rattle.design_laws.proofs.Reaching.{same_text}

fourth_of_five : (a b c d e : Bool) → (a || (b || (c || (d || e)))) ≡ false → d ≡ false
fourth_of_five false false false d e is = first d is
  where
    first : (d : Bool) → (d || e) ≡ false → d ≡ false
    first false is = refl
    first true is = absurd cc
fourth_of_five true b c d e is = absurd cc
fourth_of_five false true c d e is = absurd cc
fourth_of_five false false true d e is = absurd cc

-- A declaration in which nothing is wrong does not call an input `reg`.
own_clear : (m : Module) (before : List Item) (at : ℕ) (dir : Option Dir) (kind : NetKind) (range : Option Range) (name : Text)
    → bad_declaration m before (Decl at dir kind range name) ≡ []
    → is_input_register name (before ++ Decl at dir kind range name ∷ []) ≡ false
own_clear m before at dir kind range name none =
    fourth_of_five (list_any (declares_again dir name) before) (is_some dir && not (is_among m.ports name))
    (list_any (differs_in_range (unwrap_or range scalar) name) before)
    (is_input_register name (before ++ Decl at dir kind range name ∷ [])) (nat_lt greatest (span (unwrap_or range scalar)))
    (not_noted (is_bad_declaration m before (Decl at dir kind range name) dir range name) (failure at m.name name) none)

-- a test that one item more does not pass
not_more : (test : Item → Bool) (before : List Item) (this : Item) → test this ≡ false
    → list_any test (before ++ this ∷ []) ≡ list_any test before
not_more test before this fails =
    list_any-append test before (this ∷ []) ∙ by (list_any test before) (test this) fails
  where
    by : (a b : Bool) → b ≡ false → (a || (b || false)) ≡ a
    by true b is = refl
    by false false is = refl
    by false true is = absurd cc

module _ (name : Text) where
  no_input : (at : ℕ) (dir : Option Dir) (kind : NetKind) (range : Option Range) (other : Text) → bytes_eq other name ≡ false
      → declares_input name (Decl at dir kind range other) ≡ false
  no_input at None kind range other differs = refl
  no_input at (Some Input) kind range other differs = differs
  no_input at (Some Output) kind range other differs = refl

  no_register : (at : ℕ) (dir : Option Dir) (kind : NetKind) (range : Option Range) (other : Text) → bytes_eq other name ≡ false
      → declares_register name (Decl at dir kind range other) ≡ false
  no_register at dir Plain range other differs = refl
  no_register at dir Wire range other differs = refl
  no_register at dir Reg range other differs = differs

  -- One item more that says neither changes nothing.
  same_before : (before : List Item) (this : Item) → declares_input name this ≡ false → declares_register name this ≡ false
      → is_input_register name before ≡ false → is_input_register name (before ++ this ∷ []) ≡ false
  same_before before this input register clear =
      ap (λ b. b && list_any (declares_register name) (before ++ this ∷ [])) (not_more (declares_input name) before this input)
      ∙ ap (λ b. list_any (declares_input name) before && b) (not_more (declares_register name) before this register)
      ∙ clear

  module _ (m : Module) where
    clear_next : (before : List Item) (this : Item) → bad_declaration m before this ≡ [] → is_input_register name before ≡ false
        → is_input_register name (before ++ this ∷ []) ≡ false
    clear_next before (Decl at dir kind range other) none clear = by (bytes_eq other name) refl
      where
        by : (b : Bool) → bytes_eq other name ≡ b → is_input_register name (before ++ Decl at dir kind range other ∷ []) ≡ false
        by false differs =
            same_before before (Decl at dir kind range other) (no_input at dir kind range other differs)
            (no_register at dir kind range other differs) clear
        by true is =
            subst (λ text. is_input_register text (before ++ Decl at dir kind range other ∷ []) ≡ false) (same_text other name is)
            (own_clear m before at dir kind range other none)
    clear_next before (Assign at left right) none clear = same_before before (Assign at left right) refl refl clear
    clear_next before (Gate at kind gate outs ins) none clear = same_before before (Gate at kind gate outs ins) refl refl clear
    clear_next before (Instance at inner other links) none clear =
        same_before before (Instance at inner other links) refl refl clear
    clear_next before (Always at clock body) none clear = same_before before (Always at clock body) refl refl clear
    clear_next before (Initial at other value) none clear = same_before before (Initial at other value) refl refl clear

    clear_after : (before rest : List Item) → bad_declarations_after m before rest ≡ [] → is_input_register name before ≡ false
        → is_input_register name (before ++ rest) ≡ false
    clear_after before [] none clear = ap (is_input_register name) (append-nil before) ∙ clear
    clear_after before (this ∷ rest) none clear =
        let others = bad_declarations_after m (before ++ this ∷ []) rest in
        ap (is_input_register name) (sym (append_assoc before (this ∷ []) rest))
        ∙ clear_after (before ++ this ∷ []) rest (right_none (bad_declaration m before this) others none)
        (clear_next before this (left_none (bad_declaration m before this) others none) clear)

-- A register is no input.
pub registers_apart : (m : Module) (name : Text) → bad_names m ≡ [] → is_register m name ≡ true → is_input m name ≡ false
registers_apart m name none register =
    by (is_input m name) (is_register m name) register
    (clear_after name m [] m.items
    (right_none (bad_ports m) (bad_declarations m) (left_none (bad_ports m ++ bad_declarations m) (shared_names m) none)) refl)
  where
    by : (input register : Bool) → register ≡ true → (input && register) ≡ false → input ≡ false
    by false register is clear = refl
    by true true is clear = clear
    by true false is clear = absurd cc

-- The place of a reset among the input bits, by the ports before it.
use Rattle.std.proofs.Common.{◌≡◌, ◌≤◌, ◌+◌, ◌==◌, ℕ, zero, suc, List, [], ◌∷◌, ◌++◌, Bool, true, false, not, ◌&&◌, cond, Option, None, Some, refl, ap, sym, ◌∙◌, arith, filter, flat_map, map}
use Rattle.std.proofs.lemmas.Iterator.Adapters.{position_from-zero}
use Rattle.std.proofs.lemmas.List.{append-nil}
use Rattle.std.proofs.lemmas.Slice.Eq.{bytes_eq-Decides}
use Rattle.std.specs.List.{position, position_from, range_with_len}
use Rattle.std.specs.Option.{option_and_then, option_map, option_to_list, unwrap_or}
use Rattle.std.specs.Str.{bytes_eq}
use Rattle.bm_base.specs.declared.range.Range.{Range}
use Rattle.vlog_tree.specs.declared.design.Design.{Design}
use Rattle.vlog_tree.specs.declared.design.Module.{Module}
use Rattle.vlog_tree.specs.declared.key.Key.{Key}
use Rattle.vlog_tree.specs.Meaning.Instances.{top_module}
use Rattle.vlog_tree.specs.Meaning.Keys.{bit_count, input_keys, key_of, name_keys, same_key}
use Rattle.vlog_tree.specs.Meaning.Names.{inputs, is_input, names}
use Rattle.vlog_tree.specs.Meaning.Ranges.{range_of, span}
use Rattle.vlog_tree.specs.Meaning.Uses.{Text}
use Rattle.flat_net.specs.declared.setup.Setup.{Setup}
use Rattle.hierarchy.specs.Graph.{place_among}
use Rattle.trace_rows.specs.declared.labels.Labels.{Labels}
use Rattle.nets.specs.Nets.{net_with}
use Rattle.elab.specs.Placed.{bits_before, labels_with, reset_in, setup_with}
use Rattle.elab.specs.Plans.{IsPlan, input_place, port_label, port_labels, reset_at, reset_of, setup_of}
use Rattle.elab.specs.Settings.{setting_of}
use Rattle.elab.specs.declared.names.Names.{Names}
use Rattle.nets.proofs.ToldLemmas.{no_input}

bytes_sym : (xs ys : Text) → bytes_eq xs ys ≡ bytes_eq ys xs
bytes_sym xs ys = by (bytes_eq xs ys) (bytes_eq ys xs) refl refl
  where
    by : (a b : Bool) → bytes_eq xs ys ≡ a → bytes_eq ys xs ≡ b → a ≡ b
    by true true is back = refl
    by false false is back = refl
    by true false is back = sym ((bytes_eq-Decides ys xs).1 (sym ((bytes_eq-Decides xs ys).0 is))) ∙ back
    by false true is back = sym is ∙ (bytes_eq-Decides xs ys).1 (sym ((bytes_eq-Decides ys xs).0 back))

-- Each of the names has a bit at least.
abbrev AllWide : Module → List Text → Type 0
AllWide m [] = Unit {0}
AllWide m (name ∷ names) = (1 ≤ bit_count m name) × AllWide m names

kept_wide : (m : Module) (p : Text → Bool) (others : List Text) → AllWide m others → AllWide m (filter p others)
kept_wide m p [] wide = tt
kept_wide m p (other ∷ others) (one, wide) = by (p other) (kept_wide m p others wide)
  where
    by : (b : Bool) → AllWide m (filter p others) → AllWide m (cond b (other ∷ filter p others) (filter p others))
    by true rest = (one, rest)
    by false rest = rest

abbrev is_it : Text → Key → Bool
is_it name = same_key (key_of [] name 0)

-- ---- bits of one name

-- Those of another name are passed by.
others_passed : (name other : Text) (start low count : ℕ) (rest : List Key) → bytes_eq name other ≡ false
    → position_from (is_it name) start (map (key_of [] other) (range_with_len low count) ++ rest) ≡ position_from (is_it name) (start + count) rest
others_passed name other start low zero rest differ = ap (λ n. position_from (is_it name) n rest) {x = start} {y = start + 0} (omega arith)
others_passed name other start low (suc count) rest differ =
    ap (λ b. cond (b && (0 == low)) (Some start) (position_from (is_it name) (start + 1) (map (key_of [] other) (range_with_len (low + 1) count) ++ rest))) differ
    ∙ others_passed name other (start + 1) (low + 1) count rest differ
    ∙ ap (λ n. position_from (is_it name) n rest) (omega arith)

-- The lowest of its own is the first.
own_found : (name other : Text) (start count : ℕ) (rest : List Key) → bytes_eq name other ≡ true → 1 ≤ count
    → position_from (is_it name) start (map (key_of [] other) (range_with_len 0 count) ++ rest) ≡ Some start
own_found name other start zero rest same some = absurd (omega (arith, some))
own_found name other start (suc count) rest same some =
    ap (λ b. cond (b && true) (Some start) (position_from (is_it name) (start + 1) (map (key_of [] other) (range_with_len 1 count) ++ rest))) same

-- ---- bits of some names

module _ (m : Module) (name : Text) where
  keys_for : List Text → List Key
  keys_for others = flat_map (name_keys (record { path = []; definition = m })) others

  found_from : (start : ℕ) (others : List Text) → AllWide m others
      → position_from (is_it name) start (flat_map (name_keys (record { path = []; definition = m })) others)
      ≡ option_map (λ bits. start + bits) (bits_before (map (port_label m) others) name)
  found_from start [] some = refl
  found_from start (other ∷ others) (one, some) = by (bytes_eq name other) refl (found_from (start + bit_count m other) others some)
    where
      sums : (bits : Option ℕ) → option_map (λ bits. (start + bit_count m other) + bits) bits ≡ option_map (λ bits. start + bits) (option_map (λ bits. bit_count m other + bits) bits)
      sums None = refl
      sums (Some bits) = ap Some (omega arith)

      by : (b : Bool) → bytes_eq name other ≡ b
          → position_from (is_it name) (start + bit_count m other) (flat_map (name_keys (record { path = []; definition = m })) others)
          ≡ option_map (λ bits. (start + bit_count m other) + bits) (bits_before (map (port_label m) others) name)
          → position_from (is_it name) start (name_keys (record { path = []; definition = m }) other ++ flat_map (name_keys (record { path = []; definition = m })) others)
          ≡ option_map (λ bits. start + bits)
          (cond (bytes_eq other name) (Some 0) (option_map (λ bits. bit_count m other + bits) (bits_before (map (port_label m) others) name)))
      by true is rest =
          own_found name other start (bit_count m other) (flat_map (name_keys (record { path = []; definition = m })) others) is one
          ∙ ap Some {x = start} {y = start + 0} (omega arith)
          ∙ ap (λ b. option_map (λ bits. start + bits) (cond b (Some 0) (option_map (λ bits. bit_count m other + bits) (bits_before (map (port_label m) others) name)))) (sym is ∙ bytes_sym name other)
      by false is rest =
          others_passed name other start 0 (bit_count m other) (flat_map (name_keys (record { path = []; definition = m })) others) is
          ∙ rest
          ∙ sums (bits_before (map (port_label m) others) name)
          ∙ ap (λ b. option_map (λ bits. start + bits) (cond b (Some 0) (option_map (λ bits. bit_count m other + bits) (bits_before (map (port_label m) others) name)))) (sym is ∙ bytes_sym name other)

-- An input has a bit at least.
input_wide : (m : Module) (name : Text) → is_input m name ≡ true → 1 ≤ bit_count m name
input_wide m name is = by (range_of m name) refl
  where
    by : (range : Option Range) → range_of m name ≡ range → 1 ≤ unwrap_or (option_map span range) 0
    by (Some range) at = omega arith
    by None at = absurd (cc (is, no_input m name (ap (option_map (net_with m name)) at)))

inputs_wide : (m : Module) (others : List Text) → AllWide m (filter (is_input m) others)
inputs_wide m [] = tt
inputs_wide m (other ∷ others) = by (is_input m other) refl (inputs_wide m others)
  where
    by : (b : Bool) → is_input m other ≡ b → AllWide m (filter (is_input m) others)
        → AllWide m (cond b (other ∷ filter (is_input m) others) (filter (is_input m) others))
    by true is rest = (input_wide m other is, rest)
    by false is rest = rest

-- ---- the reset

module _ (design : Design) (given : Names) (m : Module) (top : top_module (setting_of design given) ≡ Some m) where
  keys_are : input_keys (setting_of design given) ≡ flat_map (name_keys (record { path = []; definition = m })) (filter (λ name. not (bytes_eq name given.clock)) (inputs m))
  keys_are =
      ap (λ found. flat_map (λ instance. flat_map (name_keys instance) (filter (λ name. not (bytes_eq name given.clock)) (inputs instance.definition)))
      (map (λ m. record { path = []; definition = m }) (option_to_list found))) top
      ∙ append-nil (flat_map (name_keys (record { path = []; definition = m })) (filter (λ name. not (bytes_eq name given.clock)) (inputs m)))

  place_is : (name : Text) → bits_before (port_labels given.clock m) name ≡ input_place (setting_of design given) name
  place_is name =
      sym (zero_more (bits_before (port_labels given.clock m) name))
      ∙ sym (found_from m name 0 (filter (λ name. not (bytes_eq name given.clock)) (inputs m)) (kept_wide m (λ name. not (bytes_eq name given.clock)) (inputs m) (inputs_wide m (names m))))
      ∙ sym (position_from-zero (is_it name) (flat_map (name_keys (record { path = []; definition = m })) (filter (λ name. not (bytes_eq name given.clock)) (inputs m))))
      ∙ ap (position (is_it name)) (sym keys_are)
    where
      zero_more : (bits : Option ℕ) → option_map (λ bits. 0 + bits) bits ≡ bits
      zero_more None = refl
      zero_more (Some bits) = ap Some (omega arith)

  pub setup_told : setup_with given (port_labels given.clock m) ≡ setup_of (setting_of design given)
  setup_told = ap (λ reset. record { reset = reset; cycles = given.reset_cycles }) (by given.reset)
    where
      by : (reset : Option (Text × Bool)) → option_and_then (reset_in (port_labels given.clock m)) reset ≡ option_and_then (reset_of (setting_of design given)) reset
      by None = refl
      by (Some reset) = ap (option_map (reset_at reset.1)) (place_is reset.0)

  -- what is planned
  pub planned : (place : ℕ) (labels : Labels) (setup : Setup) → place_among design.modules given.top ≡ Some place → labels ≡ labels_with given m → setup ≡ setup_with given labels.ports
      → IsPlan (setting_of design given) (record { top = place; labels = labels; setup = setup })
  planned place labels setup at labelled begun = record {
    top = at;
    labels =
        labelled
        ∙ ap (λ ports. record { top = given.top; clock = given.clock; check = given.check; ports = ports })
        (sym (append-nil (port_labels given.clock m)) ∙ ap (λ found. flat_map (port_labels given.clock) (option_to_list found)) (sym top));
    setup = begun ∙ ap (λ labels. setup_with given labels.ports) labelled ∙ setup_told;
  }

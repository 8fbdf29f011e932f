-- The inputs of a module as labels, from what a table says of its names.
use Rattle.std.proofs.Common.{◌≡◌, ◌≤◌, ◌<◌, ◌+◌, ℕ, zero, suc, List, [], ◌∷◌, ◌++◌, Bool, true, false, not, ◌&&◌, cond, Option, None, Some, refl, ap, sym, ◌∙◌, drop, filter, flat_map, get_or, length, map, slice_get, subst}
use Rattle.std.proofs.lemmas.List.{append-nil, append_assoc, drop_more}
use Rattle.std.specs.List.{cons_option, filter_map}
use Rattle.std.specs.Option.{option_map, unwrap_or}
use Rattle.std.specs.Str.{bytes_eq}
use Rattle.bm_base.specs.declared.range.Range.{Range}
use Rattle.nets.specs.Nets.{Net, net_of, net_with, nets}
use Rattle.trace_rows.specs.declared.labels.PortLabel.{PortLabel}
use Rattle.vlog_tree.specs.declared.design.Module.{Module}
use Rattle.vlog_tree.specs.Meaning.Keys.{bit_count}
use Rattle.vlog_tree.specs.Meaning.Names.{is_input, names}
use Rattle.vlog_tree.specs.Meaning.Ranges.{range_of, span}
use Rattle.vlog_tree.specs.Meaning.Uses.{Text}
use Rattle.elab.specs.Placed.{label_of_net, label_unless_clock}
use Rattle.elab.specs.Plans.{port_label, port_labels}
use Rattle.nets.proofs.ToldLemmas.{no_input}

module _ (m : Module) (clock : Text) where
  abbrev entry_for : Text → Option (Text × Net)
  entry_for name = option_map (λ net. (name, net)) (net_of m name)

  abbrev labels_for : Text → List PortLabel
  labels_for name = cond (is_input m name && not (bytes_eq name clock)) (port_label m name ∷ []) []

  label_told : (name : Text) (range : Range) → range_of m name ≡ Some range → label_of_net name (net_with m name range) ≡ port_label m name
  label_told name range is = ap (λ width. record { name = name; width = width; range = (net_with m name range).written }) (sym (ap (λ range. unwrap_or (option_map span range) 0) is))

  -- what one name gives
  one_name : (name : Text) → flat_map (label_unless_clock clock) (cons_option (entry_for name) []) ≡ labels_for name
  one_name name = by (range_of m name) refl
    where
      some : (b : Bool) (label : PortLabel) → label ≡ port_label m name → cond b (label ∷ []) [] ++ [] ≡ cond b (port_label m name ∷ []) []
      some true label is = ap (λ label. label ∷ []) is
      some false label is = refl

      by : (range : Option Range) → range_of m name ≡ range
          → flat_map (label_unless_clock clock) (cons_option (option_map (λ net. (name, net)) (option_map (net_with m name) range)) []) ≡ labels_for name
      by None is = sym (ap (λ b. cond (b && not (bytes_eq name clock)) (port_label m name ∷ []) []) (no_input m name (ap (option_map (net_with m name)) is)))
      by (Some range) is = some (is_input m name && not (bytes_eq name clock)) (label_of_net name (net_with m name range)) (label_told name range is)

  -- what some names give
  by_name : (others : List Text) → flat_map (label_unless_clock clock) (filter_map entry_for others) ≡ flat_map labels_for others
  by_name [] = refl
  by_name (name ∷ others) = first (entry_for name) ∙ ap (λ labels. labels ++ flat_map (label_unless_clock clock) (filter_map entry_for others)) (one_name name) ∙ ap (λ labels. labels_for name ++ labels) (by_name others)
    where
      first : (entry : Option (Text × Net)) → flat_map (label_unless_clock clock) (cons_option entry (filter_map entry_for others))
          ≡ flat_map (label_unless_clock clock) (cons_option entry []) ++ flat_map (label_unless_clock clock) (filter_map entry_for others)
      first None = refl
      first (Some entry) = ap (λ labels. labels ++ flat_map (label_unless_clock clock) (filter_map entry_for others)) (sym (append-nil (label_unless_clock clock entry)))

  as_filtered : (others : List Text) → flat_map labels_for others ≡ map (port_label m) (filter (λ name. not (bytes_eq name clock)) (filter (is_input m) others))
  as_filtered [] = refl
  as_filtered (name ∷ others) = ap (λ labels. labels_for name ++ labels) (as_filtered others) ∙ by (is_input m name) (bytes_eq name clock) refl refl
    where
      rest : List Text
      rest = filter (is_input m) others

      by : (input same : Bool) → is_input m name ≡ input → bytes_eq name clock ≡ same
          → labels_for name ++ map (port_label m) (filter (λ name. not (bytes_eq name clock)) rest)
          ≡ map (port_label m) (filter (λ name. not (bytes_eq name clock)) (cond (is_input m name) (name ∷ rest) rest))
      by true true is at = rw is (rw at refl)
      by true false is at = rw is (rw at refl)
      by false same is at = rw is refl

  -- all that the table gives
  pub labels_told : flat_map (label_unless_clock clock) (nets m) ≡ port_labels clock m
  labels_told = by_name (names m) ∙ as_filtered (names m)

  -- one entry more
  pub labels_step : (place : ℕ) (entry : Text × Net) (before after : List PortLabel) → place < length (nets m) → slice_get (nets m) place ≡ Some entry
      → after ≡ before ++ label_unless_clock clock entry → before ++ flat_map (label_unless_clock clock) (drop place (nets m)) ≡ port_labels clock m
      → after ++ flat_map (label_unless_clock clock) (drop (place + 1) (nets m)) ≡ port_labels clock m
  labels_step place entry before after within is added so_far =
      ap (λ labels. labels ++ flat_map (label_unless_clock clock) (drop (place + 1) (nets m))) added
      ∙ append_assoc before (label_unless_clock clock entry) (flat_map (label_unless_clock clock) (drop (place + 1) (nets m)))
      ∙ ap (λ entries. before ++ flat_map (label_unless_clock clock) entries) (sym (at_place (nets m) place entry within is))
      ∙ so_far
    where
      at_place : (entries : List (Text × Net)) (place : ℕ) (entry : Text × Net) → place < length entries → slice_get entries place ≡ Some entry → drop place entries ≡ entry ∷ drop (place + 1) entries
      at_place entries place entry within is = drop_more entries place entry within ∙ ap (λ first. first ∷ drop (place + 1) entries) (got entries place entry is)
        where
          got : (entries : List (Text × Net)) (place : ℕ) (entry : Text × Net) → slice_get entries place ≡ Some entry → get_or entries place entry ≡ entry
          got [] place entry is = refl
          got (first ∷ entries) zero entry is = ap (λ found. unwrap_or found entry) is
          got (first ∷ entries) (suc place) entry is = got entries place entry is

  -- An entry's width is that of its name.
  pub width_within : (name : Text) (net : Net) → net_of m name ≡ Some net → bit_count m name ≤ 65536 → span net.range ≤ 65536
  width_within name net is within = by (range_of m name) refl is
    where
      by : (range : Option Range) → range_of m name ≡ range → option_map (net_with m name) range ≡ Some net → span net.range ≤ 65536
      by None at is = absurd cc
      by (Some range) at is =
          subst (λ range. span range ≤ 65536) (ap (λ found. unwrap_or (option_map (λ (net : Net). net.range) found) range) is)
          (subst (λ found. unwrap_or (option_map span found) 0 ≤ 65536) at within)

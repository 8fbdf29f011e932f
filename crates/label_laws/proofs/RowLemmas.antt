-- How wide the rows of a design are.
use Rattle.std.proofs.Common.{◌≡◌, ◌≤◌, ℕ, ◌+◌, List, [], ◌∷◌, All, Option, None, Some, refl, ap, sym, ◌∙◌, arith, flat_map, length, map}
use Rattle.std.specs.Option.{option_to_list}
use Rattle.std.proofs.lemmas.List.{append-nil, length-append}
use Rattle.std.proofs.lemmas.List.Concat.{flat_map-cons}
use Rattle.std.proofs.lemmas.List.Elements.{All-head, All-tail}
use Rattle.std.proofs.lemmas.List.FromFn.{length-map-range_with_len}
use Rattle.std.proofs.lemmas.List.Sums.{sum_by-cons}
use Rattle.bm_base.specs.declared.range.Range.{Range}
use Rattle.elab.specs.Plans.{port_label, port_labels}
use Rattle.label_laws.specs.Writable.{RowsAreInputs}
use Rattle.trace_rows.specs.declared.labels.PortLabel.{PortLabel}
use Rattle.trace_rows.specs.Writable.{HasWidth, IsPort}
use Rattle.vcd_writer.specs.Value.{row_width}
use Rattle.vlog_tree.specs.declared.design.Module.{Module}
use Rattle.vlog_tree.specs.Meaning.Instances.{Instance, top_module}
use Rattle.vlog_tree.specs.Meaning.Keys.{bit_count, input_names, key_of, keys_of, name_keys}
use Rattle.vlog_tree.specs.Meaning.Setting.{Setting}
use Rattle.vlog_tree.specs.Meaning.Uses.{Text}

abbrev as_top : Module → Instance
as_top m = record { path = []; definition = m }

names_wide : (m : Module) (names : List Text)
    → row_width (map (port_label m) names) ≡ length (flat_map (name_keys (as_top m)) names)
names_wide m [] = refl
names_wide m (name ∷ names) =
    sum_by-cons (λ (port : PortLabel). port.width) (port_label m name) (map (port_label m) names)
    ∙ ap (λ count. bit_count m name + count) (names_wide m names)
    ∙ ap (λ count. count + length (flat_map (name_keys (as_top m)) names))
    (sym (length-map-range_with_len (key_of [] name) 0 (bit_count m name)))
    ∙ sym (length-append (name_keys (as_top m) name) (flat_map (name_keys (as_top m)) names))
    ∙ ap length (sym (flat_map-cons (name_keys (as_top m)) name names))

top_wide : (setting : Setting) (top : Option Module)
    → row_width (flat_map (port_labels setting.clock) (option_to_list top))
    ≡ length (keys_of (input_names setting) (map as_top (option_to_list top)))
top_wide setting None = refl
top_wide setting (Some m) =
    ap row_width (append-nil (port_labels setting.clock m)) ∙ names_wide m (input_names setting m)
    ∙ ap length (sym (append-nil (flat_map (name_keys (as_top m)) (input_names setting m))))

pub rows_are : RowsAreInputs
rows_are setting = top_wide setting (top_module setting)

-- ---- there are no more ports than bits

wide : (range : Option Range) (width : ℕ) → HasWidth range width → 1 ≤ width
wide None width is = omega (arith, is)
wide (Some range) width is = omega (arith, is.0)

pub no_more_ports : (ports : List PortLabel) → All IsPort ports → length ports ≤ row_width ports
no_more_ports [] all = omega arith
no_more_ports (port ∷ ports) all =
    let first : 1 ≤ port.width = wide port.range port.width (All-head IsPort port ports all).1 in
    let rest : length ports ≤ row_width ports = no_more_ports ports (All-tail IsPort port ports all) in
    let sum : row_width (port ∷ ports) ≡ port.width + row_width ports =
    sum_by-cons (λ (port : PortLabel). port.width) port ports in
    omega arith

-- The labels of a design that keeps the rules can be written.
use Rattle.std.proofs.Common.{◌≡◌, ◌≤◌, ◌<◌, ◌^◌, ℕ, List, [], ◌∷◌, All, true, refl, ap, sym, subst, ◌∙◌, arith, flat_map, length, map}
use Rattle.std.specs.List.{AllPairs, list_all}
use Rattle.std.specs.Option.{option_to_list}
use Rattle.std.specs.Str.{bytes_eq}
use Rattle.std.proofs.lemmas.List.{append-nil}
use Rattle.std.proofs.lemmas.List.Elements.{All-map, All-same, All-weaker}
use Rattle.design_laws.proofs.Members.{found_has}
use Rattle.design_laws.proofs.Reaching.{own_name}
use Rattle.elab.specs.Plans.{labels_of, port_label, port_labels}
use Rattle.label_laws.specs.Writable.{LabelsAreWritable}
use Rattle.label_laws.proofs.GrammarLemmas.{is_right, module_is_right, spelled_right}
use Rattle.label_laws.proofs.NameLemmas.{Differs, ports_are_inputs, signals_differ}
use Rattle.label_laws.proofs.PortLemmas.{all_member, input_printable, is_port, output_printable}
use Rattle.label_laws.proofs.RowLemmas.{no_more_ports, rows_are}
use Rattle.label_laws.proofs.TokenLemmas.{first_is, is_printable, second_is}
use Rattle.name_rules.specs.Declarations.{bad_names}
use Rattle.rule_laws.specs.Names.{RulesGiveNames}
use Rattle.rule_laws.specs.Ready.{IsReadyDesign, RulesGiveReady}
use Rattle.trace_rows.specs.declared.labels.PortLabel.{PortLabel}
use Rattle.trace_rows.specs.Writable.{AreWritable, IsPort}
use Rattle.vcd_writer.specs.Value.{row_width}
use Rattle.vlog_tree.specs.declared.design.Module.{Module}
use Rattle.vlog_tree.specs.Meaning.Keys.{input_keys, input_names}
use Rattle.vlog_tree.specs.Meaning.Names.{is_input}
use Rattle.vlog_tree.specs.Meaning.Setting.{Setting}
use Rattle.vlog_tree.specs.Meaning.Uses.{Text}

port_names : (m : Module) (names : List Text) → map (λ (port : PortLabel). port.name) (map (port_label m) names) ≡ names
port_names m [] = refl
port_names m (name ∷ names) = ap (λ rest. name ∷ rest) (port_names m names)

below : (ports wide bits limit : ℕ) → ports ≤ wide → wide ≡ bits → bits < limit → ports < limit
below ports wide bits limit less same small = omega arith

module _ (setting : Setting) (ready : IsReadyDesign setting) (right : bad_names ready.top ≡ [])
    (fit : module_is_right ready.top ≡ true) where
  items_right : list_all is_right ready.top.items ≡ true
  items_right = second_is (is_printable ready.top.name) (list_all is_right ready.top.items) fit

  top_printable : is_printable setting.top ≡ true
  top_printable =
      subst (λ text. is_printable text ≡ true) (own_name setting.design setting.top ready.top ready.is_top)
      (first_is (is_printable ready.top.name) (list_all is_right ready.top.items) fit)

  ports_are : (labels_of setting).ports ≡ port_labels setting.clock ready.top
  ports_are =
      ap (λ found. flat_map (port_labels setting.clock) (option_to_list found)) ready.is_top
      ∙ append-nil (port_labels setting.clock ready.top)

  are_ports : All IsPort (labels_of setting).ports
  are_ports =
      All-same IsPort (labels_of setting).ports (port_labels setting.clock ready.top) ports_are
      (All-map IsPort (port_label ready.top) (input_names setting ready.top)
      (All-weaker (λ name. is_input ready.top name ≡ true) (λ name. IsPort (port_label ready.top name))
      (is_port ready.top right items_right) (input_names setting ready.top) (ports_are_inputs setting ready.top)))

  apart : AllPairs Differs (setting.clock ∷ setting.check ∷ map (λ (port : PortLabel). port.name) (labels_of setting).ports)
  apart =
      subst (λ names. AllPairs Differs (setting.clock ∷ setting.check ∷ names))
      (sym (ap (map (λ (port : PortLabel). port.name)) ports_are ∙ port_names ready.top (input_names setting ready.top)))
      (signals_differ setting ready.top right ready.clock ready.check)

  are_writable : length (input_keys setting) < 2 ^ 25 → AreWritable (labels_of setting)
  are_writable few = record {
    top = top_printable;
    clock = input_printable ready.top right items_right setting.clock ready.clock;
    check = output_printable ready.top right items_right setting.check ready.check;
    ports = are_ports;
    apart = apart;
    few = below (length (labels_of setting).ports) (row_width (labels_of setting).ports) (length (input_keys setting)) (2 ^ 25)
        (no_more_ports (labels_of setting).ports are_ports) (rows_are setting) few;
  }

pub writable : RulesGiveReady → RulesGiveNames → LabelsAreWritable
writable gives names setting bytes spells kept =
    let ready : IsReadyDesign setting = gives setting kept in
    are_writable setting ready (names setting ready.top kept ready.is_top)
    (all_member module_is_right setting.design.modules ready.top
    (spelled_right bytes setting.design spells.spelled)
    (found_has (λ (m : Module). bytes_eq m.name setting.top) setting.design.modules ready.top ready.is_top).0)

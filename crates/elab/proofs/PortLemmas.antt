-- The ports that a command names.
use Rattle.std.proofs.Common.{◌≡◌, None, Some, ap, ◌∙◌, flat_map, fold}
use Rattle.std.specs.Option.{option_to_list}
use Rattle.vlog_tree.specs.declared.design.Module.{Module}
use Rattle.vlog_tree.specs.Meaning.Instances.{top_module}
use Rattle.vlog_tree.specs.Meaning.Setting.{Setting}
use Rattle.hierarchy.specs.Failures.{earlier, earliest}
use Rattle.std.proofs.lemmas.List.{append-nil}
use Rattle.elab.specs.Ports.{bad_ports_of, bad_setting}

-- The top is the one module whose ports are judged.
pub bad_setting_of : (setting : Setting) (m : Module) → top_module setting ≡ Some m → earliest (bad_setting setting) ≡ fold earlier None (bad_ports_of setting m)
bad_setting_of setting m is =
    ap (λ top. earliest (flat_map (bad_ports_of setting) (option_to_list top))) is
    ∙ ap (fold earlier None) (append-nil (bad_ports_of setting m))

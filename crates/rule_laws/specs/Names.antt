-- The names of the top of a design that keeps the rules.
use Rattle.std.specs.Prelude.{◌≡◌, [], Some}
use Rattle.name_rules.specs.Declarations.{bad_names}
use Rattle.vlog_tree.specs.declared.design.Module.{Module}
use Rattle.vlog_tree.specs.Meaning.Instances.{top_module}
use Rattle.vlog_tree.specs.Meaning.Setting.{Setting}
use Rattle.elab.specs.Refusals.{KeepsRules}

-- Nothing is wrong with the declarations and the header of the top.
abbrev pub RulesGiveNames : Type 0
RulesGiveNames = (setting : Setting) (m : Module) → KeepsRules setting → top_module setting ≡ Some m → bad_names m ≡ []

-- The reset of a design that keeps the rules.
use Rattle.std.specs.Prelude.{◌≡◌, Bool, false, true, Some, bytes_eq}
use Rattle.vlog_tree.specs.declared.design.Module.{Module}
use Rattle.vlog_tree.specs.Meaning.Instances.{top_module}
use Rattle.vlog_tree.specs.Meaning.Keys.{bit_count}
use Rattle.vlog_tree.specs.Meaning.Names.{is_input}
use Rattle.vlog_tree.specs.Meaning.Setting.{Setting}
use Rattle.vlog_tree.specs.Meaning.Uses.{Text}
use Rattle.elab.specs.Refusals.{KeepsRules}

-- A reset is an input of the top that is not the clock, of one bit.
pub record IsResetOf (setting : Setting) (m : Module) : Type 0 where
  pub input : (name : Text) (active : Bool) → setting.reset ≡ Some (name, active) → is_input m name ≡ true
  pub apart : (name : Text) (active : Bool) → setting.reset ≡ Some (name, active) → bytes_eq name setting.clock ≡ false
  pub one_bit : (name : Text) (active : Bool) → setting.reset ≡ Some (name, active) → bit_count m name ≡ 1

-- A design that keeps the rules has such a reset, where it has one.
abbrev pub RulesGiveReset : Type 0
RulesGiveReset =
    (setting : Setting) (m : Module) → KeepsRules setting → top_module setting ≡ Some m → IsResetOf setting m

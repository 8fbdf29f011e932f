-- A design that is ready to be flattened.
use Rattle.std.specs.Prelude.{◌≡◌, true, Some}
use Rattle.vlog_tree.specs.declared.design.Module.{Module}
use Rattle.vlog_tree.specs.Meaning.Instances.{top_module}
use Rattle.vlog_tree.specs.Meaning.Keys.{bit_count}
use Rattle.vlog_tree.specs.Meaning.Names.{is_input, is_output}
use Rattle.vlog_tree.specs.Meaning.Setting.{Setting}
use Rattle.design_laws.specs.Sound.{IsSound}
use Rattle.elab.specs.Refusals.{KeepsRules}
use Rattle.frames.specs.Numbered.{IsReady}
use Rattle.numbering.specs.Places.{IsApart}

-- Its meaning is sound, its bits can be numbered, and the clock and the checker are an input and an output of the top, of
-- one bit each.
pub record IsReadyDesign (setting : Setting) : Type 0 where
  pub sound : IsSound setting
  pub ready : IsReady setting
  pub top : Module
  pub is_top : top_module setting ≡ Some top
  pub apart : IsApart top
  pub clock : is_input top setting.clock ≡ true
  pub clock_bit : bit_count top setting.clock ≡ 1
  pub check : is_output top setting.check ≡ true
  pub check_bit : bit_count top setting.check ≡ 1

-- A design that keeps the rules is ready.
abbrev pub RulesGiveReady : Type 0
RulesGiveReady = (setting : Setting) → KeepsRules setting → IsReadyDesign setting

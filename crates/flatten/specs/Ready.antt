-- A design that can be flattened, by the names that its plan has.
use Rattle.std.specs.Prelude.{◌≡◌, None, Some, true}
use Rattle.design_laws.specs.Grammar.{design_is_by_grammar}
use Rattle.design_laws.specs.Sound.{IsSound}
use Rattle.frames.specs.Numbered.{IsReady, Numbered, setting_with}
use Rattle.vlog_tree.specs.declared.design.Module.{Module}
use Rattle.vlog_tree.specs.Meaning.Instances.{top_module}
use Rattle.vlog_tree.specs.Meaning.Keys.{bit_count}
use Rattle.vlog_tree.specs.Meaning.Setting.{Setting}
use Rattle.vlog_tree.specs.Meaning.Uses.{Text}

-- the design with the name of its checker; how it is reset makes no difference
abbrev pub setting_by : Numbered → Text → Setting
setting_by it check = record {
  design = it.design;
  top = it.top;
  clock = it.clock;
  check = check;
  reset = None;
  reset_cycles = 0;
}

-- Its meaning is sound, its bits can be numbered, its items are by the grammar, and the checker has one bit.
pub record IsReadyBy (it : Numbered) (check : Text) : Type 0 where
  pub sound : IsSound (setting_with it)
  pub ready : IsReady (setting_with it)
  pub by_grammar : design_is_by_grammar it.design ≡ true
  pub check_bit : (m : Module) → top_module (setting_with it) ≡ Some m → bit_count m check ≡ 1

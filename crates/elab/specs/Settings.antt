-- A design with what a command names of it.
use Rattle.hierarchy.specs.Indexed.{Topped}
use Rattle.clock_sets.specs.Sets.{Clocked}
use Rattle.vlog_tree.specs.declared.design.Design.{Design}
use Rattle.vlog_tree.specs.Meaning.Setting.{Setting}
use Rattle.elab.specs.declared.names.Names.{Names}

abbrev pub setting_of : Design → Names → Setting
setting_of design names = record {
  design = design;
  top = names.top;
  clock = names.clock;
  check = names.check;
  reset = names.reset;
  reset_cycles = names.reset_cycles;
}

-- the design with the name of its top
abbrev pub topped_of : Setting → Topped
topped_of setting = record { design = setting.design; top = setting.top }

-- and with that of its clock
abbrev pub clocked_of : Setting → Clocked
clocked_of setting = record { design = setting.design; top = setting.top; clock = setting.clock }

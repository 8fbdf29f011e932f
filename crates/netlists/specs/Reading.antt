-- What a netlist that was read has.
use Rattle.std.specs.Prelude.{◌≡◌, ℕ, List, length}
use Rattle.elab.specs.Plans.{labels_of}
use Rattle.elab.specs.Settings.{setting_of}
use Rattle.elab.specs.declared.names.Names.{Names}
use Rattle.levelise.specs.Machine.{Level}
use Rattle.levelise.specs.Machine as net
use Rattle.machine_laws.specs.Machines.{AreSame, level_of}
use Rattle.trace_rows.specs.declared.labels.Labels.{Labels}
use Rattle.trace_rows.specs.Writable.{AreWritable}
use Rattle.vcd_writer.specs.Value.{row_width}
use Rattle.vlog_tree.specs.declared.design.Design.{Design}
use Rattle.vlog_tree.specs.Meaning.Setting.{Setting}
use Rattle.vlog_tree.specs.Meaning.Step as design
use Rattle.netlists.specs.Netlists.{IsNetlist}

-- the machine of a setting's flat netlist is that of its design
abbrev pub IsMachineOf : Setting → Level → Type 0
IsMachineOf setting level =
    AreSame (length level.net.power_up) level.net.inputs (net.machine level) (design.machine setting)

-- The bytes are a netlist, with these labels. Its machine is that of the design, and its traces can be written: their rows
-- have a bit for each input.
pub record IsRead (names : Names) (bytes : List ℕ) (level : Level) (labels : Labels) : Type 0 where
  pub design : Design
  pub is : IsNetlist names bytes design
  pub level_is : level ≡ level_of (setting_of design names)
  pub labels_are : labels ≡ labels_of (setting_of design names)
  pub same : IsMachineOf (setting_of design names) level
  pub writable : AreWritable labels
  pub wide : row_width labels.ports ≡ level.net.inputs

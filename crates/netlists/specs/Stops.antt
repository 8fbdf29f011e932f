-- How the reading of a netlist ends, step by step.
use Rattle.std.specs.Prelude.{⊤, ◌≡◌, None, Some}
use Rattle.elab.specs.Plans.{labels_of}
use Rattle.elab.specs.declared.fault.ElabFault.{ElabFault}
use Rattle.elab.specs.declared.fault.ElabFault.TheVariants as elab
use Rattle.flat_design.specs.Sizes.{too_large}
use Rattle.flat_net.specs.declared.fault.FlatFault.{FlatFault}
use Rattle.flat_net.specs.declared.fault.FlatFault.TheVariants as flat
use Rattle.loop_laws.specs.Loops.{IsFreeOfLoops}
use Rattle.machine_laws.specs.Machines.{level_of}
use Rattle.vlog_lexer.specs.declared.fault.LexFault.{LexFault}
use Rattle.vlog_lexer.specs.declared.fault.LexFault.TheVariants as lex
use Rattle.vlog_parse.specs.declared.parse_fault.ParseFault.{ParseFault}
use Rattle.vlog_parse.specs.declared.parse_fault.ParseFault.TheVariants as parse
use Rattle.vlog_tree.specs.Meaning.Setting.{Setting}
use Rattle.netlists.specs.Faults.{IsLoopKey}
use Rattle.netlists.specs.declared.fault.NetlistFault.{NetlistFault}
use Rattle.netlists.specs.declared.fault.NetlistFault.TheVariants as fault
use Rattle.netlists.specs.declared.planned.Netlist.{Netlist}

-- the fault that a lexer's one is; want of memory is one of its own
abbrev pub fault_of_lex : LexFault → NetlistFault
fault_of_lex lex.Memory = fault.Memory
fault_of_lex why = fault.Lex why

abbrev pub fault_of_parse : ParseFault → NetlistFault
fault_of_parse parse.Memory = fault.Memory
fault_of_parse why = fault.Parse why

abbrev pub fault_of_rule : ElabFault → NetlistFault
fault_of_rule elab.Memory = fault.Memory
fault_of_rule why = fault.Rule why

abbrev pub fault_of_flat : FlatFault → NetlistFault
fault_of_flat flat.Memory = fault.Memory
fault_of_flat (flat.TooLarge what) = fault.TooLarge what

-- The machine of a design that keeps the rules was made, with the labels of its traces.
pub record IsMade (setting : Setting) (netlist : Netlist) : Type 0 where
  pub sizes : too_large setting ≡ None
  pub free : IsFreeOfLoops setting
  pub level : netlist.level ≡ level_of setting
  pub labels : netlist.labels ≡ labels_of setting

-- It was not made: a size passes its limit, or some node reads itself, or there is no memory.
abbrev pub StopsMaking : Setting → NetlistFault → Type 0
StopsMaking setting (fault.TooLarge what) = too_large setting ≡ Some what
StopsMaking setting (fault.Loop key) = (too_large setting ≡ None) × IsLoopKey setting key
StopsMaking setting fault.Memory = ⊤
StopsMaking setting other = ⊥

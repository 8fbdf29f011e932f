-- The lines of refused files, and their statuses.
use Rattle.std.specs.Prelude.{ℕ, ◌==◌, Bool, ◌||◌, List, [], ◌++◌, codes, cond, decimal}
use Rattle.bm_base.specs.Size.{limit_of, name_of_size}
use Rattle.bm_base.specs.declared.size.Size.{Size}
use Rattle.bm_base.specs.declared.status.Status.{Status}
use Rattle.bm_base.specs.declared.status.Status.TheVariants as status
use Rattle.elab.specs.declared.fault.ElabFault.{ElabFault}
use Rattle.elab.specs.declared.fault.ElabFault.TheVariants as elab
use Rattle.netlists.specs.declared.fault.NetlistFault.{NetlistFault}
use Rattle.netlists.specs.declared.fault.NetlistFault.TheVariants as fault
use Rattle.vcd_header.specs.declared.fault.VcdFault.{VcdFault}
use Rattle.vcd_header.specs.declared.fault.VcdFault.TheVariants as vcd
use Rattle.vlog_lexer.specs.declared.fault.LexFault.{LexFault}
use Rattle.vlog_lexer.specs.declared.fault.LexFault.TheVariants as lex
use Rattle.vlog_parse.specs.declared.parse_fault.ParseFault.{ParseFault}
use Rattle.vlog_parse.specs.declared.parse_fault.ParseFault.TheVariants as parse
use Rattle.bm_inputs.specs.declared.stop.InputRefusal.{InputRefusal}
use Rattle.bm_inputs.specs.declared.stop.InputRefusal.TheVariants.{Limit, Netlist, Waveform}

-- ---- statuses

-- a size that passes its limit has the status of a limit
abbrev pub netlist_status : NetlistFault → Status
netlist_status (fault.TooLarge what) = status.Limit
netlist_status other = status.Netlist

-- and so has a limit that the rows pass
abbrev pub waveform_status : VcdFault → Status
waveform_status (vcd.Limit what) = status.Limit
waveform_status other = status.Waveform

abbrev pub refusal_status : InputRefusal → Status
refusal_status (Netlist why) = netlist_status why
refusal_status (Limit what) = status.Limit
refusal_status (Waveform why) = waveform_status why

-- ---- lines

-- the size's name and its limit
abbrev pub limit_line : Size → List ℕ
limit_line what = codes "limit: " ++ name_of_size what ++ codes " " ++ decimal (limit_of what) ++ codes "\n"

-- the line of a fault of such a file, with this code, at a place
abbrev pub placed_line : List ℕ → List ℕ → ℕ → List ℕ
placed_line file code at = file ++ codes " refused: " ++ code ++ codes " at " ++ decimal at ++ codes "\n"

-- want of memory has no line
abbrev pub lex_line : LexFault → List ℕ
lex_line (lex.BadByte at) = placed_line (codes "netlist") (codes "L1") at
lex_line (lex.OpenComment at) = placed_line (codes "netlist") (codes "L2") at
lex_line (lex.OpenString at) = placed_line (codes "netlist") (codes "L3") at
lex_line (lex.Directive at) = placed_line (codes "netlist") (codes "L4") at
lex_line lex.Memory = []

abbrev pub parse_line : ParseFault → List ℕ
parse_line (parse.Outside at) = placed_line (codes "netlist") (codes "P1") at
parse_line (parse.Number at) = placed_line (codes "netlist") (codes "P2") at
parse_line (parse.TooDeep at) = placed_line (codes "netlist") (codes "P3") at
parse_line (parse.Syntax at) = placed_line (codes "netlist") (codes "P4") at
parse_line parse.Memory = []

-- these rules print a name alone
abbrev pub is_alone : ℕ → Bool
is_alone rule = rule == 1 || (rule == 2 || rule == 11)

-- the name, behind that of its module and a dot
abbrev pub printed_name : ℕ → List ℕ → List ℕ → List ℕ
printed_name rule module_name name = cond (is_alone rule) name (module_name ++ codes "." ++ name)

abbrev pub rule_line : ElabFault → List ℕ
rule_line (elab.Rule rule module_name name) =
    codes "netlist refused: E" ++ decimal rule ++ codes " " ++ printed_name rule module_name name ++ codes "\n"
rule_line elab.Memory = []

-- a loop's line names a bit of it
abbrev pub loop_line : List ℕ → List ℕ
loop_line key = codes "netlist refused: loop " ++ key ++ codes "\n"

abbrev pub netlist_line : NetlistFault → List ℕ
netlist_line (fault.Lex why) = lex_line why
netlist_line (fault.Parse why) = parse_line why
netlist_line (fault.Rule why) = rule_line why
netlist_line (fault.TooLarge what) = limit_line what
netlist_line (fault.Loop key) = loop_line key
netlist_line fault.Memory = []

-- what is printed where a file could not be read
abbrev pub read_fault_line : List ℕ
read_fault_line = codes "read fault\n"

abbrev pub waveform_line : VcdFault → List ℕ
waveform_line (vcd.Token at) = placed_line (codes "waveform") (codes "V1") at
waveform_line (vcd.Truncated at) = placed_line (codes "waveform") (codes "V2") at
waveform_line (vcd.TimeBack at) = placed_line (codes "waveform") (codes "V3") at
waveform_line (vcd.BadCode at) = placed_line (codes "waveform") (codes "V4") at
waveform_line (vcd.TooWide at) = placed_line (codes "waveform") (codes "V5") at
waveform_line vcd.NoScope = codes "waveform refused: V6\n"
waveform_line (vcd.NoSignal name) = codes "waveform refused: V7 " ++ name ++ codes "\n"
waveform_line vcd.NoTime = codes "waveform refused: V8\n"
waveform_line (vcd.Limit what) = limit_line what
waveform_line vcd.Read = read_fault_line
waveform_line vcd.Memory = []

abbrev pub refusal_line : InputRefusal → List ℕ
refusal_line (Netlist why) = netlist_line why
refusal_line (Limit what) = limit_line what
refusal_line (Waveform why) = waveform_line why

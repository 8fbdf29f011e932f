-- The exit code of each status.
use Rattle.std.specs.Prelude.{ℕ}
use Rattle.bm_base.specs.declared.status.Status.{Status}
use Rattle.bm_base.specs.declared.status.Status.TheVariants.{Done, No, Words, Netlist, Waveform, ReadFault, WriteFault, Limit, Memory, Certificate}

abbrev pub code_of : Status → ℕ
code_of Done = 0
code_of No = 1
code_of Words = 2
code_of Netlist = 3
code_of Waveform = 4
code_of ReadFault = 5
code_of WriteFault = 6
code_of Limit = 7
code_of Memory = 8
code_of Certificate = 9
